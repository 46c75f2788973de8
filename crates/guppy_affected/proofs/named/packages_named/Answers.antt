use Rattle.std.proofs.Common.{◌≡◌, Bor, List, Contains, rules, subst}
use Rattle.std.specs.Prelude.{◌↔◌}
use Rattle.guppy_data.specs.declared.texts.package_id.PackageId.{PackageId}
use Rattle.guppy.specs.Query.{IsSetWhere, SetData}
use Rattle.guppy_affected.specs.Named.{HasOneOf}
use Rattle.guppy_affected.proofs.IdSets.{named_alike, set_made, told}
use Rattle.guppy_affected.proofs.Iterators.{IfOk-along, where_along}
use Rattle.guppy_affected.proofs.named.packages_named.Goals as goal

pub returns-clause-members : goal.returns-clause-members
returns-clause-members c =
    let packages = c.args.graph.now.packages in
    let list = c.in_ok-to_vec.field-0.items in
    let set = c.new-ids.result in
    let same : list ≡ c.args.ids.now = search (rules, c.in_ok-to_vec.ensures.items_if_clones_equal) in
    let made = set_made set list c.new-ids.ensures.kept in
    IfOk-along c.packages_among.result _ (λ (found : SetData). IsSetWhere packages (HasOneOf packages (told c.args.ids.now)) found.included)
    (λ found. where_along packages found.included (named_alike packages (told set) (told c.args.ids.now)
    (λ id. subst (λ (l : List (Bor PackageId)). Contains (told set) id ↔ Contains (told l) id) same (made id)))) c.packages_among.ensures.members
