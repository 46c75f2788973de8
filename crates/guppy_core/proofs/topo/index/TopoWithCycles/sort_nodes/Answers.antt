use Rattle.std.proofs.Common.{rules}
use Rattle.std.proofs.lemmas.List.Sorted.{IsNonDecreasingBy-from_sort_by_key}
use Rattle.guppy_core.specs.Listing.{place_in}
use Rattle.guppy_core.proofs.topo.index.TopoWithCycles.sort_nodes.Goals as goal

pub returns-clause-ascending : goal.returns-clause-ascending
returns-clause-ascending g c = IsNonDecreasingBy-from_sort_by_key (λ (ix : g.row.Ix.Denot). place_in c.args.self.now (g.Ix.IndexType.index_of ix)) _ c.sort_unstable_by_key.ensures.sorted (λ a r q k. search rules)
