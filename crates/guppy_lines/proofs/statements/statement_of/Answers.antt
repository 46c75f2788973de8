use Rattle.std.proofs.Common.{refl, ◌≡◌, false, true}
use Rattle.std.specs.Str.{is_utf8}
use Rattle.std.proofs.lemmas.Bool.{false_from_ne_true}
use Rattle.std.proofs.lemmas.Str.{is_utf8-from_IsUtf8, IsUtf8-from_is_utf8}
use Rattle.guppy_lines.proofs.statements.statement_of.Goals as goal

pub returns-in-Ok : goal.returns-in-Ok
returns-in-Ok c = let is : is_utf8 c.args.line.now ≡ true = is_utf8-from_IsUtf8 _ c.in-Ok.ensures.cases.1 in rw is (rw (← c.in-Ok.ensures.cases.0) c.statement_of_text.ensures)

pub returns-in-Err : goal.returns-in-Err
returns-in-Err c =
    let is_not : is_utf8 c.args.line.now ≡ false = false_from_ne_true _ (λ is. c.in-Err.ensures.cases.0 (IsUtf8-from_is_utf8 _ is)) in rw is_not refl
