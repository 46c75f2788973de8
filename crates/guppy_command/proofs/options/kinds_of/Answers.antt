use Rattle.std.proofs.Common.{lit<, rules, ◌≡◌, ◌∙◌, sym}
use Rattle.std.specs.List.{list_all}
use Rattle.std.specs.Str.{byte}
use Rattle.std.proofs.lemmas.Iterator.Search.{all_from_yields_List}
use Rattle.std.proofs.lemmas.Iterator.Splits.{YieldsList-from_str_split}
use Rattle.guppy_command.specs.Options.{is_kind, names_in}
use Rattle.guppy_command.proofs.options.kinds_of.Goals as goal

pub returns-then-not-all : goal.returns-then-not-all
returns-then-not-all c =
    let split = c.split.ensures in
    let told : c.all.result ≡ list_all is_kind (names_in c.args.word.now) = all_from_yields_List is_kind _ _ _ c.all.ensures.ran
    (YieldsList-from_str_split (byte ",") c.args.word.now (lit< tt) split.text split.has_more split.pattern) (λ x b q k. search rules) in
    rw (sym told ∙ c.if-not-all.true)

pub returns : goal.returns
returns c =
    let split = c.split.ensures in
    let told : c.all.result ≡ list_all is_kind (names_in c.args.word.now) = all_from_yields_List is_kind _ _ _ c.all.ensures.ran
    (YieldsList-from_str_split (byte ",") c.args.word.now (lit< tt) split.text split.has_more split.pattern) (λ x b q k. search rules) in
    rw (sym told ∙ c.if-not-all.false, c.names_kind.ensures, c.names_kind-2.ensures, c.names_kind-3.ensures)
