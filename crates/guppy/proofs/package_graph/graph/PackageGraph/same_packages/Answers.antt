use Rattle.guppy.proofs.EqualLists.{same_ids-equal}
use Rattle.guppy.proofs.package_graph.graph.PackageGraph.same_packages.Goals as goal

pub returns : goal.returns
returns c = same_ids-equal c.args.self.now.packages c.args.other.now.packages _ (rw (c.nodes.ensures, c.nodes-2.ensures, c.dep_graph.ensures.nodes, c.dep_graph-2.ensures.nodes) at c.have_same_ids.ensures)
