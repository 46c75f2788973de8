use Rattle.guppy.proofs.metadata.PackageMetadata.direct_links_directed.Goals as goal

pub invariant_of-result : goal.invariant_of-result
invariant_of-result c = record { in_graph = rw (c.iter.ensures.rest, ← c.dep_graph.ensures.links) c.links_of.ensures.within }
