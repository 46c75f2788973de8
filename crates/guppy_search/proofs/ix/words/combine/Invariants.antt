use Rattle.guppy_search.proofs.CombinedWords.{AreCombined}
use Rattle.guppy_search.proofs.ix.words.combine.Given as goal

abbrev pub invariant-loop-k : goal.invariant-loop-k
invariant-loop-k g l = AreCombined (λ a b r. g.F.Fn.post l.operation (a, (b, tt)) r) l.fn.words l.others l.k l.words
