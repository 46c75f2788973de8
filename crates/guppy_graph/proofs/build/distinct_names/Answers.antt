use Rattle.std.proofs.Common.{refl, subst, length}
use Rattle.guppy_search.proofs.Exits.{if_ok, on_ok, if_err}
use Rattle.guppy_graph.specs.Indexes.{IsNameIndex}
use Rattle.guppy_graph.specs.Keys.{DifferBelow, IsFirstRepeat}
use Rattle.guppy_graph.specs.Members.{HasName}
use Rattle.guppy_graph.proofs.PackageIds.{ids_all}
use Rattle.guppy_graph.proofs.UnknownTexts.{memory_told}
use Rattle.guppy_graph.proofs.build.distinct_names.Goals as goal

pub listed-names-requires : goal.listed-names-requires
listed-names-requires c = rw c.as_slice.ensures.value c.in_ok-texts.ensures

pub index_by_name-requires : goal.index_by_name-requires
index_by_name-requires c = rw c.listed-names.ensures (ids_all c.args.packages.now c.args.by_id.now c.requires)

pub returns-in_err-texts : goal.returns-in_err-texts
returns-in_err-texts c =
    let none = c.from_residual.ensures in
    record { made = if_ok _ _ none.0; accepted = on_ok _ _ none.0; refused = if_err _ _ _ none.1 (λ e is. memory_told _ e is) }

pub returns-in_err-by_name : goal.returns-in_err-by_name
returns-in_err-by_name c =
    let none = c.from_residual-in_err-by_name.ensures in
    record { made = if_ok _ _ none.0; accepted = on_ok _ _ none.0; refused = if_err _ _ _ none.1 (λ e is. memory_told _ e is) }

pub returns-in-Some-clause-refused : goal.returns-in-Some-clause-refused
returns-in-Some-clause-refused c =
    let listed : IsFirstRepeat (HasName c.listed-names.result.packages.now) c.in-Some.package = rw c.in-Some.is at c.in_ok-by_name.ensures.repeat in
    rw c.into.ensures (c.in-Some.package, refl, subst (λ packages. IsFirstRepeat (HasName packages) c.in-Some.package) c.listed-names.ensures listed)

pub returns-clause-made : goal.returns-clause-made
returns-clause-made c = subst (λ packages. IsNameIndex packages c.in_ok-by_name.by_name.items) c.listed-names.ensures c.in_ok-by_name.ensures.index

pub returns-clause-accepted : goal.returns-clause-accepted
returns-clause-accepted c =
    let listed : DifferBelow (HasName c.listed-names.result.packages.now) (length c.listed-names.result.packages.now) = rw c.in_default.is at c.in_ok-by_name.ensures.repeat in
    subst (λ packages. DifferBelow (HasName packages) (length packages)) c.listed-names.ensures listed
