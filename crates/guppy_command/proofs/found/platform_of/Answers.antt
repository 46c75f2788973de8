use Rattle.std.proofs.Common.{◌≡◌, ◌∙◌, ℕ, List, Err, ap, subst, refl}
use Rattle.std.specs.Str.Lines.{lines}
use Rattle.guppy_target.specs.Platform.{IsFirstFault}
use Rattle.guppy_command.proofs.found.platform_of.Goals as goal

pub returns-in-Err-NotASetting-clause-err : goal.returns-in-Err-NotASetting-clause-err
returns-in-Err-NotASetting-clause-err g c =
    let before = c.in-Err-NotASetting.before in
    let text : c.in-Ok-from_utf8.cfgs.now ≡ c.as_slice.result.now = cc (c.in-Ok-from_utf8.ensures.cases.0) in
    let fault = c.new.ensures.fault before (c.in-Err-NotASetting.is ∙ ap Err c.in-Err-NotASetting.field-0-is) in
    (refl, (c.in-Ok.bytes.items, c.in-Ok.ensures, subst (λ (bytes : List ℕ). IsFirstFault (lines bytes) before) (text ∙ c.as_slice.ensures.value) fault))
