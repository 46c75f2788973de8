use Rattle.guppy_graph.proofs.Rules.{accepted_packages}
use Rattle.guppy_graph.proofs.graph.RecordGraph.from_records.Goals as goal

pub invariant_of-result : goal.invariant_of-result
invariant_of-result c =
    let made = c.in_ok-graph.ensures.made in
    let order = c.in_ok-order.ensures in
    let accepted = accepted_packages c.args.packages.items c.args.links.items c.args.workspace made.accepted in
    record { graph = record { graph = made.graph; accepted = rw made.nodes_are accepted; ends = rw made.nodes_are made.links_are.ends; ordered = order.ordered }; indexes = rw made.nodes_are made.indexes; looked = order.looked; many_looks = order.least; few_looks = order.most }
