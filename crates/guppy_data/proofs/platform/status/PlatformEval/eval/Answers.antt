use Rattle.std.proofs.Common.{◌∙◌, sym, ap, ℕ, List, rules}
use denote.Enum.Bare.{same_true}
use Rattle.guppy_data.specs.contracts.platform.ternary.EnabledTernary.{the_type}
use Rattle.guppy_data.specs.declared.platform.ternary.EnabledTernary.TheVariants.{Enabled}
use Rattle.guppy_data.specs.Ternary.{ternary_of}
use Rattle.guppy_data.proofs.Ternaries.{greatest-next, greatest-decided}
use Rattle.guppy_data.proofs.platform.status.PlatformEval.eval.Goals as goal

pub loop-spec-preserved : goal.loop-spec-preserved
loop-spec-preserved g c =
    greatest-next (λ (text : List ℕ). ternary_of (g.E.TargetEval.answer c.args.eval.now text c.args.platform.now)) c.args.self.specs.now c.loop-spec.spec-index c.spec-item.result c.loop-spec-test.true c.spec-item.is c.loop-spec.value c.new.result c.bitor-value.result c.loop-spec.invariant (c.new.ensures ∙ ap ternary_of c.eval.ensures) c.bitor-value.ensures

pub returns-then-eq : goal.returns-then-eq
returns-then-eq g c =
    greatest-decided (λ (text : List ℕ). ternary_of (g.E.TargetEval.answer c.args.eval.now text c.args.platform.now)) c.args.self.specs.now c.loop-spec.spec-index c.spec-item.result c.loop-spec-test.true c.spec-item.is c.loop-spec.value c.new.result c.bitor-value.result c.loop-spec.invariant (c.new.ensures ∙ ap ternary_of c.eval.ensures) c.bitor-value.ensures (same_true the_type (search rules) c.bitor-value.result Enabled (sym c.if-eq.ensures))
