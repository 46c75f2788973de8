use Rattle.std.proofs.Common.{◌≡◌, ◌∙◌, inl, inr, refl, ap, true, length}
use Rattle.guppy_graph.specs.Graph.{GraphData}
use Rattle.guppy.specs.Views.{graph_of, package_position}
use Rattle.guppy_folders.specs.Folders.{lists_in}
use Rattle.guppy_affected.specs.Changed.{IsChangedBy}
use Rattle.guppy_affected.specs.Folders.{given_in}
use Rattle.guppy_affected.proofs.Owners.{union_with_one}
use Rattle.guppy_affected.proofs.touched.add_if_changed.Goals as goal
use Rattle.guppy_affected.proofs.touched.add_if_changed.Goals.{then-branch+in_ok-to_package_set+in_ok-set, else-branch}

pub returns-clause-added : goal.returns-clause-added
returns-clause-added c =
    let also = given_in c.args.also.now in
    let here = package_position c.args.metadata in
    let before = c.args.set.now in
    let has = c.in_ok-is_changed.ensures in
    elim c.if-branch.branch [
      | then-branch+in_ok-to_package_set+in_ok-set w ↦ rw w.set-is (inl (
        has.0 w.if-branch.true,
        w.in_ok-set.ensures.count ∙ ap (λ (g : GraphData). length g.packages) c.requires.same_graph,
        union_with_one before.included w.in_ok-to_package_set.field-0.included w.in_ok-set.field-0.included here w.in_ok-to_package_set.ensures.members.members w.in_ok-set.ensures.members,
      ))
      | else-branch w ↦ rw w.set-is (inr (
        λ (h : IsChangedBy (graph_of c.args.metadata).now also (lists_in c.args.folders.now) (lists_in c.args.paths.now) (lists_in c.args.places.now) here). let is : c.in_ok-is_changed.field-0 ≡ true = has.1 h in absurd (cc),
        refl,
      ))
    ]
