use Rattle.std.proofs.Common.{◌∙◌, ◌<◌, sym, ap, subst, true, false, List, length, length-set, slice_set}
use Rattle.std.proofs.lemmas.List.{length-replicate}
use Rattle.guppy_search.specs.declared.ix.direction.DependencyDirection.TheVariants.{Forward}
use Rattle.guppy_graph.specs.Graph.{GraphData}
use Rattle.guppy.specs.Listed.{listed_left, positions_listed}
use Rattle.guppy.specs.Query.{initials_of}
use Rattle.guppy.specs.Views.{PackageData, package_data, package_position}
use Rattle.guppy_affected.proofs.Tests.{AreToCome, to_come_all, to_come_none, to_come_later, first_graph, fits}
use Rattle.guppy_affected.proofs.tested.initial_positions.Goals as goal

pub loop-package-init : goal.loop-package-init
loop-package-init c =
    let set = initials_of c.args.query.now in
    let listed = c.packages-package-items.ensures in
    let left = rw c.initials.ensures at listed.left in
    let members = rw c.initials.ensures at listed.members in
    record {
      to_come = subst (AreToCome set.graph set.included _) (sym c.in_ok-positions.ensures) (to_come_all set.graph set.included _ (positions_listed Forward set) _ (rw c.into_iter-package-iterator.ensures.into_iter_gives left) members);
      count = ap length c.in_ok-positions.ensures ∙ (length-replicate _ false ∙ (c.package_count.ensures ∙ ap (λ (g : GraphData). length g.packages) c.graph-graph.ensures));
    }

pub insert-requires : goal.insert-requires
insert-requires c =
    let now = c.loop-package.invariant in
    let here = c.in-Some.package in
    let are = subst (λ (t : List PackageData). AreToCome c.args.query.now.graph c.args.query.now.initials t c.loop-package.positions) c.in-Some.ensures.steps now.to_come in
    rw c.package_ix.ensures (fits here c.args.query.now.graph c.loop-package.positions (first_graph c.args.query.now.graph c.args.query.now.initials (package_data here) (listed_left c.next.new.self) c.loop-package.positions are) now.count)

pub loop-package-preserved : goal.loop-package-preserved
loop-package-preserved c =
    let now = c.loop-package.invariant in
    let here = c.in-Some.package in
    let are = subst (λ (t : List PackageData). AreToCome c.args.query.now.graph c.args.query.now.initials t c.loop-package.positions) c.in-Some.ensures.steps now.to_come in
    let after = c.insert.ensures.after ∙ ap (λ p. slice_set c.loop-package.positions p true) c.package_ix.ensures in
    let below : package_position here < length c.loop-package.positions = fits here c.args.query.now.graph c.loop-package.positions (first_graph c.args.query.now.graph c.args.query.now.initials (package_data here) (listed_left c.next.new.self) c.loop-package.positions are) now.count in
    record {
      to_come = rw after (to_come_later c.args.query.now.graph c.args.query.now.initials (package_data here) (listed_left c.next.new.self) c.loop-package.positions are below);
      count = rw after (length-set _ _ _ ∙ now.count);
    }

pub returns-clause-members : goal.returns-clause-members
returns-clause-members c =
    to_come_none c.args.query.now.graph c.args.query.now.initials c.loop-package.positions
    (subst (λ (t : List PackageData). AreToCome c.args.query.now.graph c.args.query.now.initials t c.loop-package.positions) c.in-None.ensures.steps.0 c.loop-package.invariant.to_come)
