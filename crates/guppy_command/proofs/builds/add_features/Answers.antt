use Rattle.std.proofs.Common.{◌∙◌, ◌++◌, ap, lit<, None, refl}
use Rattle.std.specs.List.{flat_map}
use Rattle.std.specs.Str.{byte}
use Rattle.std.proofs.lemmas.Iterator.Consumers.{YieldsList-end}
use Rattle.std.proofs.lemmas.Iterator.Splits.{YieldsList-from_str_split}
use Rattle.guppy_command.specs.Builds.{spaced}
use Rattle.guppy_command.specs.Shown.{texts}
use Rattle.guppy_command.proofs.builds.add_features.Goals as goal

pub returns : goal.returns
returns c =
    let gave = rw c.into_iter-text-iterator.ensures.into_iter_gives at c.loop-text.yielded_by in
    let split = c.split-text-items.ensures in
    let all = (YieldsList-end (YieldsList-from_str_split (byte ",") c.args.value.now (lit< tt) split.text split.has_more split.pattern) c.loop-text.yielded c.loop-text.text-iterator gave None c.next.new.self refl c.in-None.ensures.steps).0 in
    c.loop-text.invariant ∙ ap (λ pieces. texts c.args.features.now.items ++ flat_map spaced pieces) all
