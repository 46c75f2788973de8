use Rattle.std.proofs.Common.{refl, rules}
use Rattle.std.proofs.lemmas.Iterator.{items_from_collect, YieldsList-from_map}
use Rattle.std.proofs.lemmas.Iterator.Consumers.{YieldsList-at, YieldsList-from_first}
use Rattle.guppy_search.specs.Walked.{LinkEnds}
use Rattle.guppy_flat.proofs.sets.numbers_of.Goals as goal

pub returns : goal.returns
returns g c =
    items_from_collect _ c.collect.ensures.ran
    (YieldsList-from_map _ (λ (l : LinkEnds). l.number)
    (YieldsList-at c.map.ensures.source (YieldsList-from_first (λ l. let ends : LinkEnds = record { from = g.G.Ix.IndexType.index_of l.0; to = g.G.Ix.IndexType.index_of l.1; number = l.2 } in ends) (λ s. s) c.args.links refl))
    c.map.ensures.closure (λ x r q k. search rules))
