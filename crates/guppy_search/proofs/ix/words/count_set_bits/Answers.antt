use Rattle.std.proofs.Common.{count_ones, arith}
use Rattle.std.proofs.lemmas.List.Sums.{sum_by_more, sum_by_more_le}
use Rattle.guppy_search.proofs.ix.words.count_set_bits.Goals as goal

pub overflow_add-count : goal.overflow_add-count
overflow_add-count c =
    let few = sum_by_more_le count_ones c.args.words.now c.loop-word.word-index 0 c.loop-word-test.true in
    let counted = c.loop-word.invariant in
    omega arith

pub loop-word-preserved : goal.loop-word-preserved
loop-word-preserved c =
    let more = sum_by_more count_ones c.args.words.now c.loop-word.word-index 0 c.loop-word-test.true in
    let counted = c.loop-word.invariant in
    omega arith
