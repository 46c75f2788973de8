use Rattle.guppy_graph.specs.Graph.{GraphData}
use Rattle.guppy.specs.Iterators.{packages_left}
use Rattle.guppy.specs.Views.{package_seen}
use Rattle.guppy_affected.specs.Named.{HasOneOf}
use Rattle.guppy_affected.proofs.IdSets.{told}
use Rattle.guppy_affected.proofs.Local.{with_id_within}
use Rattle.guppy_affected.proofs.Owners.{picking_none, picking_graph, picking_more, picking_all}
use Rattle.guppy_affected.proofs.named.packages_among.Goals as goal

pub loop-package-init : goal.loop-package-init
loop-package-init c =
    let P = λ (g : GraphData). HasOneOf g.packages (told c.args.ids.now) in
    rw c.into_iter-package-iterator.ensures.into_iter_gives
    (picking_none c.args.graph P (λ p (id, there, its). with_id_within c.args.graph.now.packages id p its) (packages_left c.packages-package-items.result) c.packages-package-items.ensures c.in_ok-all.all c.in_ok-all.ensures.graph c.in_ok-all.ensures.none)

pub add_if_named-requires : goal.add_if_named-requires
add_if_named-requires c = record { same_graph = picking_graph c.loop-package.invariant (package_seen c.in-Some.package) (packages_left c.next.new.self) c.in-Some.ensures.steps }

pub loop-package-preserved : goal.loop-package-preserved
loop-package-preserved c =
    picking_more c.loop-package.invariant (package_seen c.in-Some.package) (packages_left c.next.new.self) c.in-Some.ensures.steps c.add_if_named.new.set c.in_ok-add_if_named.ensures.graph c.in_ok-add_if_named.ensures.added

pub returns-clause-members : goal.returns-clause-members
returns-clause-members c = picking_all c.loop-package.invariant c.in-None.ensures.steps.0
