use Rattle.std.proofs.Common.{◌∙◌, lit<, None, refl}
use Rattle.std.proofs.lemmas.Iterator.Consumers.{YieldsList-end}
use Rattle.std.proofs.lemmas.Iterator.Splits.{YieldsList-from_str_split}
use Rattle.guppy_arguments.proofs.words.arguments_in.Goals as goal

pub returns : goal.returns
returns c =
    let gave = rw c.into_iter-word-iterator.ensures.into_iter_gives at c.loop-word.yielded_by in
    let split = c.split-word-items.ensures in
    c.loop-word.invariant ∙ (YieldsList-end (YieldsList-from_str_split 0 c.args.text.now (lit< tt) split.text split.has_more split.pattern) c.loop-word.yielded c.loop-word.word-iterator gave None c.next.new.self refl c.in-None.ensures.steps).0
