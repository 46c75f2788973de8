use Rattle.std.proofs.Common.{rules, ◌≡◌, refl, ◌<◌, ◌≤◌, length}
use Rattle.std.proofs.lemmas.Result.{err_from_is_err_and}
use Rattle.guppy_search.proofs.Exits.{if_ok, on_ok, if_err}
use Rattle.guppy_data.specs.declared.texts.error.Error.TheVariants.{PackageGraphConstructError}
use Rattle.guppy_data.specs.declared.texts.fault.ConstructFault.TheVariants.{TooManyPackages, TooManyLinks}
use Rattle.guppy_graph.specs.Accepted.{few_packages, few_links, known_ends, ArePackagesAccepted}
use Rattle.guppy_graph.proofs.Rules.{none_below, packages_kept, after_link_count, refused}
use Rattle.guppy_graph.proofs.UnknownTexts.{memory_told}
use Rattle.guppy_graph.proofs.build.indexes_and_ends.Goals as goal

pub listed-ids-requires : goal.listed-ids-requires
listed-ids-requires c = rw c.as_slice.ensures.value c.in_ok-texts.ensures

pub ends_of-requires : goal.ends_of-requires
ends_of-requires c = c.in_ok-indexes.ensures.made.by_id

pub returns-then-packages-gt-LIMIT-clause-refused : goal.returns-then-packages-gt-LIMIT-clause-refused
returns-then-packages-gt-LIMIT-clause-refused c =
    let packages = c.args.packages.now in
    let many : 4294967295 < length packages = search rules in
    let is : c.into.result ≡ PackageGraphConstructError TooManyPackages = search rules in
    rw is (record { rule = few_packages; broken = (refl, many); earlier = none_below packages c.args.links.now c.args.workspace.now })

pub returns-in_err-joined : goal.returns-in_err-joined
returns-in_err-joined c =
    let none = c.from_residual.ensures in
    record { indexes = if_ok _ _ none.0; ends = if_ok _ _ none.0; accepted = on_ok _ _ none.0; few_links = on_ok _ _ none.0; refused = if_err _ _ _ none.1 (λ e is. memory_told _ e is) }

pub returns-in_err-texts : goal.returns-in_err-texts
returns-in_err-texts c =
    let none = c.from_residual-in_err-texts.ensures in
    record { indexes = if_ok _ _ none.0; ends = if_ok _ _ none.0; accepted = on_ok _ _ none.0; few_links = on_ok _ _ none.0; refused = if_err _ _ _ none.1 (λ e is. memory_told _ e is) }

pub returns-in_err-indexes-clause-refused : goal.returns-in_err-indexes-clause-refused
returns-in_err-indexes-clause-refused c =
    let p = err_from_is_err_and c.from_residual-in_err-indexes.result c.from_residual-in_err-indexes.ensures.1 in
    rw (p.1, p.2) (rw c.listed-ids.ensures at (c.in_err-indexes.ensures.refused c.args.links.now))

pub returns-then-links-gt-LIMIT-clause-refused : goal.returns-then-links-gt-LIMIT-clause-refused
returns-then-links-gt-LIMIT-clause-refused c =
    let packages = c.args.packages.now in
    let links = c.args.links.now in
    let workspace = c.args.workspace.now in
    let kept : ArePackagesAccepted packages workspace = rw c.listed-ids.ensures at c.in_ok-indexes.ensures.accepted in
    let many : 4294967295 < length links = search rules in
    let is : c.into-then-links-gt-LIMIT.result ≡ PackageGraphConstructError TooManyLinks = search rules in
    rw is (record { rule = few_links; broken = (refl, many); earlier = packages_kept packages links workspace kept })

pub returns-in_err-ends-clause-refused : goal.returns-in_err-ends-clause-refused
returns-in_err-ends-clause-refused c =
    let packages = c.args.packages.now in
    let links = c.args.links.now in
    let workspace = c.args.workspace.now in
    let kept : ArePackagesAccepted packages workspace = rw c.listed-ids.ensures at c.in_ok-indexes.ensures.accepted in
    let few : length links ≤ 4294967295 = search rules in
    let p = err_from_is_err_and c.from_residual-in_err-ends.result c.from_residual-in_err-ends.ensures.1 in
    rw (p.1, p.2) (refused packages links workspace known_ends
    (after_link_count packages links workspace (packages_kept packages links workspace kept) few) _
    (rw c.listed-ids.ensures at c.in_err-ends.ensures.err))

pub returns-clause-indexes : goal.returns-clause-indexes
returns-clause-indexes c = rw c.listed-ids.ensures at c.in_ok-indexes.ensures.made

pub returns-clause-ends : goal.returns-clause-ends
returns-clause-ends c = rw c.listed-ids.ensures at c.in_ok-ends.ensures.ok

pub returns-clause-accepted : goal.returns-clause-accepted
returns-clause-accepted c = rw c.listed-ids.ensures at c.in_ok-indexes.ensures.accepted
