use Rattle.std.proofs.Common.{lit<, rules}
use Rattle.std.proofs.lemmas.Iterator.Search.{any_from_yields_List}
use Rattle.std.proofs.lemmas.Iterator.Splits.{YieldsList-from_str_split}
use Rattle.std.specs.Str.{byte, bytes_eq}
use Rattle.guppy_command.proofs.options.names_kind.Goals as goal

pub returns : goal.returns
returns c =
    let split = c.split.ensures in
    any_from_yields_List (λ name. bytes_eq name c.args.kind.now) _ _ _ c.any.ensures.ran
    (YieldsList-from_str_split (byte ",") c.args.word.now (lit< tt) split.text split.has_more split.pattern) (λ x b q k. search rules)
