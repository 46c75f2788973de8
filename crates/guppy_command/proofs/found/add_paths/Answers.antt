use Rattle.std.proofs.Common.{◌∙◌, ◌++◌, ap, lit<, None, refl, map, string_bytes, filter}
use Rattle.std.specs.Prelude.{not}
use Rattle.std.proofs.lemmas.Iterator.Consumers.{YieldsList-end}
use Rattle.std.proofs.lemmas.Iterator.Splits.{YieldsList-from_str_split}
use Rattle.guppy_command.specs.Command.{from_root}
use Rattle.guppy_command.specs.Text.{is_empty}
use Rattle.guppy_command.proofs.found.add_paths.Goals as goal

pub returns : goal.returns
returns c =
    let gave = rw c.into_iter-path-iterator.ensures.into_iter_gives at c.loop-path.yielded_by in
    let split = c.split-path-items.ensures in
    let all = (YieldsList-end (YieldsList-from_str_split 0 c.args.text.now (lit< tt) split.text split.has_more split.pattern) c.loop-path.yielded c.loop-path.path-iterator gave None c.next.new.self refl c.in-None.ensures.steps).0 in
    c.loop-path.invariant ∙ ap (λ paths. map string_bytes c.args.paths.now.items ++ map from_root (filter (λ path. not (is_empty path)) paths)) all
