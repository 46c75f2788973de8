use Rattle.std.proofs.Common.{◌∙◌, ◌++◌, ap, lit<, None, refl, filter}
use Rattle.std.specs.Prelude.{not}
use Rattle.std.specs.Str.{byte}
use Rattle.std.proofs.lemmas.Iterator.Consumers.{YieldsList-end}
use Rattle.std.proofs.lemmas.Iterator.Splits.{YieldsList-from_str_split}
use Rattle.guppy_command.specs.Shown.{texts}
use Rattle.guppy_command.specs.Text.{is_empty}
use Rattle.guppy_command.proofs.builds.add_spaced.Goals as goal

pub returns : goal.returns
returns c =
    let gave = rw c.into_iter-word-iterator.ensures.into_iter_gives at c.loop-word.yielded_by in
    let split = c.split-word-items.ensures in
    let all = (YieldsList-end (YieldsList-from_str_split (byte " ") c.args.text.now (lit< tt) split.text split.has_more split.pattern) c.loop-word.yielded c.loop-word.word-iterator gave None c.next.new.self refl c.in-None.ensures.steps).0 in
    c.loop-word.invariant ∙ ap (λ words. texts c.args.features.now.items ++ filter (λ word. not (is_empty word)) words) all
