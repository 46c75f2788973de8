use Rattle.std.proofs.Common.{◌≡◌, ◌∙◌, inl, inr, refl, ap, true, length}
use Rattle.guppy_graph.specs.Graph.{GraphData}
use Rattle.guppy.specs.Views.{graph_of, package_position}
use Rattle.guppy_affected.specs.Named.{HasOneOf}
use Rattle.guppy_affected.proofs.IdSets.{told}
use Rattle.guppy_affected.proofs.Owners.{union_with_one}
use Rattle.guppy_affected.proofs.named.add_if_named.Goals as goal
use Rattle.guppy_affected.proofs.named.add_if_named.Goals.{then-is_named+in_ok-to_package_set+in_ok-set, else-is_named}

pub returns-clause-added : goal.returns-clause-added
returns-clause-added c =
    let here = package_position c.args.metadata in
    let before = c.args.set.now in
    let has = c.is_named.ensures in
    elim c.if-is_named.branch [
      | then-is_named+in_ok-to_package_set+in_ok-set w ↦ rw w.set-is (inl (
        has.0 w.if-is_named.true,
        w.in_ok-set.ensures.count ∙ ap (λ (g : GraphData). length g.packages) c.requires.same_graph,
        union_with_one before.included w.in_ok-to_package_set.field-0.included w.in_ok-set.field-0.included here w.in_ok-to_package_set.ensures.members.members w.in_ok-set.ensures.members,
      ))
      | else-is_named w ↦ rw w.set-is (inr (
        λ (h : HasOneOf (graph_of c.args.metadata).now.packages (told c.args.ids.now) here). let is : c.is_named.result ≡ true = has.1 h in let isnt = w.if-is_named.false in absurd (cc),
        refl,
      ))
    ]
