use Rattle.std.proofs.Common.{◌≡◌, sum_by, count_ones, take}
use Rattle.guppy_search.proofs.ix.words.count_set_bits.Given as goal

abbrev pub invariant-loop-word : goal.invariant-loop-word
invariant-loop-word l = l.count ≡ sum_by count_ones (take l.word-index l.words)
