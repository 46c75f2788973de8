use Rattle.guppy.proofs.LinkNumbers.{by_ends}
use Rattle.guppy.proofs.metadata.PackageMetadata.number_between.Goals as goal

pub returns-in-Forward : goal.returns-in-Forward
returns-in-Forward c = rw c.in-Forward.is (by_ends _ _ _ _ (λ l from to. (from, to)) (λ l ends. ends) c.find_link.result (rw (c.dep_graph-graph.ensures.links, c.package_ix.ensures) at c.find_link.ensures))

pub returns-in-Reverse : goal.returns-in-Reverse
returns-in-Reverse c = rw c.in-Reverse.is (by_ends _ _ _ _ (λ l from to. (to, from)) (λ l ends. (ends.1, ends.0)) c.find_link-in-Reverse.result (rw (c.dep_graph-graph.ensures.links, c.package_ix-in-Reverse.ensures) at c.find_link-in-Reverse.ensures))
