use Rattle.std.proofs.Common.{◌≡◌, ◌∙◌, true, false, Some, subst}
use Rattle.std.specs.Prelude.{◌↔◌}
use Rattle.guppy_target.specs.Answer.{Says}
use Rattle.guppy_c.proofs.platform.said.Goals as goal

pub returns-clause-enabled : goal.returns-clause-enabled
returns-clause-enabled c =
    let exact = subst (λ text. (c.eval.result ≡ Some true) ↔ Says text c.args.platform.now true) (c.new-spec.ensures ∙ c.in_ok-from_str.ensures.ok) (c.eval.ensures.exact true) in
    let value = c.value_of.ensures.enabled in
    (λ v. exact.0 (value.0 v), λ s. value.1 (exact.1 s))

pub returns-clause-disabled : goal.returns-clause-disabled
returns-clause-disabled c =
    let exact = subst (λ text. (c.eval.result ≡ Some false) ↔ Says text c.args.platform.now false) (c.new-spec.ensures ∙ c.in_ok-from_str.ensures.ok) (c.eval.ensures.exact false) in
    let value = c.value_of.ensures.disabled in
    (λ v. exact.0 (value.0 v), λ s. value.1 (exact.1 s))
