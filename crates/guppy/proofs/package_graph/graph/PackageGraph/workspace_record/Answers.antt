use Rattle.guppy.proofs.package_graph.graph.PackageGraph.workspace_record.Goals as goal

pub returns-clause-known : goal.returns-clause-known
returns-clause-known c = rw (← c.self.view_is) c.workspace_record.ensures.known
