use Rattle.std.proofs.Common.{◌≡◌, ◌∙◌, true, false, Err, sym, ap, subst}
use Rattle.std.specs.Prelude.{◌↔◌}
use Rattle.std.specs.Str.Lines.{lines}
use Rattle.guppy_target.specs.Answer.{Says}
use Rattle.guppy_target.specs.Platform.{AreLines, IsFirstFault}
use Rattle.guppy_c.proofs.platform.guppy_eval.Goals as goal

pub returns-in-Err-NotASetting-clause-line : goal.returns-in-Err-NotASetting-clause-line
returns-in-Err-NotASetting-clause-line c =
    let e = c.in-Err-NotASetting in
    let first = subst (λ cfgs. IsFirstFault (lines cfgs) e.line) c.in-Ok-Ok-Ok.ensures''.cases.0 (e.ensures.fault e.line (ap Err e.field-0-is)) in
    rw c.refused-in-Err-NotASetting.ensures (λ is. subst (λ n. IsFirstFault (lines c.args.cfgs.now) n) (sym e.line-is) first)

pub returns-in-Ok-said-clause-said : goal.returns-in-Ok-said-clause-said
returns-in-Ok-said-clause-said c is =
    let platform = c.in-Ok.platform in
    let value = c.in-Ok-said.value in
    let text_is = c.in-Ok-Ok-Ok.ensures.cases.0 in
    record {
      platform = platform;
      name_is = c.in-Ok.ensures.triple ∙ c.in-Ok-Ok-Ok.ensures'.cases.0;
      lines_are = subst (λ cfgs. AreLines (lines cfgs) platform.settings) c.in-Ok-Ok-Ok.ensures''.cases.0 c.in-Ok.ensures.settings;
      enabled = subst (λ text. (value ≡ 2) ↔ Says text platform true) text_is c.in-Ok-said.ensures.enabled;
      disabled = subst (λ text. (value ≡ 0) ↔ Says text platform false) text_is c.in-Ok-said.ensures.disabled;
      most = c.in-Ok-said.ensures.most;
    }
