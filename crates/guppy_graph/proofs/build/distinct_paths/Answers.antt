use Rattle.std.proofs.Common.{refl, subst, length}
use Rattle.guppy_search.proofs.Exits.{if_ok, on_ok, if_err}
use Rattle.guppy_graph.specs.Indexes.{IsPathIndex}
use Rattle.guppy_graph.specs.Keys.{DifferBelow, IsFirstRepeat}
use Rattle.guppy_graph.specs.Members.{HasPath}
use Rattle.guppy_graph.proofs.PackageIds.{ids_all}
use Rattle.guppy_graph.proofs.UnknownTexts.{memory_told}
use Rattle.guppy_graph.proofs.build.distinct_paths.Goals as goal

pub listed-paths-requires : goal.listed-paths-requires
listed-paths-requires c = rw c.as_slice.ensures.value c.in_ok-texts.ensures

pub index_from-requires : goal.index_from-requires
index_from-requires c = rw c.listed-paths.ensures (ids_all c.args.packages.now c.args.by_id.now c.requires)

pub returns-in_err-texts : goal.returns-in_err-texts
returns-in_err-texts c =
    let none = c.from_residual.ensures in
    record { made = if_ok _ _ none.0; accepted = on_ok _ _ none.0; refused = if_err _ _ _ none.1 (λ e is. memory_told _ e is) }

pub returns-in_err-by_path : goal.returns-in_err-by_path
returns-in_err-by_path c =
    let none = c.from_residual-in_err-by_path.ensures in
    record { made = if_ok _ _ none.0; accepted = on_ok _ _ none.0; refused = if_err _ _ _ none.1 (λ e is. memory_told _ e is) }

pub returns-in-Some-clause-refused : goal.returns-in-Some-clause-refused
returns-in-Some-clause-refused c =
    let listed : IsFirstRepeat (HasPath c.listed-paths.result.packages.now) c.in-Some.package = rw c.in-Some.is at c.in_ok-by_path.ensures.repeat in
    rw c.into.ensures (c.in-Some.package, refl, subst (λ packages. IsFirstRepeat (HasPath packages) c.in-Some.package) c.listed-paths.ensures listed)

pub returns-clause-made : goal.returns-clause-made
returns-clause-made c = subst (λ packages. IsPathIndex packages c.in_ok-by_path.by_path.items) c.listed-paths.ensures c.in_ok-by_path.ensures.index

pub returns-clause-accepted : goal.returns-clause-accepted
returns-clause-accepted c =
    let listed : DifferBelow (HasPath c.listed-paths.result.packages.now) (length c.listed-paths.result.packages.now) = rw c.in_default.is at c.in_ok-by_path.ensures.repeat in
    subst (λ packages. DifferBelow (HasPath packages) (length packages)) c.listed-paths.ensures listed
