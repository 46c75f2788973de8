use Rattle.std.proofs.Common.{◌≡◌, ◌∙◌, sym, rules}
use Rattle.std.specs.Prelude.{is_some}
use Rattle.std.specs.Str.Lines.{lines}
use Rattle.std.proofs.lemmas.Iterator.Search.{all_from_yields_List}
use Rattle.std.proofs.lemmas.Iterator.Splits.{YieldsList-from_lines}
use Rattle.guppy_target.specs.Reading.{line_at, are_settings}
use Rattle.guppy_target.proofs.Lines.{settings_some, some_settings}
use Rattle.guppy_target.proofs.platform.are_settings.Goals as goal

pub returns-clause-read : goal.returns-clause-read
returns-clause-read c = all_from_yields_List (λ line. is_some (line_at line)) _ _ _ c.all.ensures.ran (YieldsList-from_lines c.args.cfgs.now cc) (λ x b q k. search rules)

pub returns-clause-exact : goal.returns-clause-exact
returns-clause-exact c =
    let told : c.all.result ≡ are_settings c.args.cfgs.now = all_from_yields_List (λ line. is_some (line_at line)) _ _ _ c.all.ensures.ran (YieldsList-from_lines c.args.cfgs.now cc) (λ x b q k. search rules) in
    (λ is. settings_some (lines c.args.cfgs.now) (sym told ∙ cc), λ are. let is = some_settings (lines c.args.cfgs.now) are.0 are.1 in cc)
