use Rattle.std.proofs.Common.{sym, rules}
use denote.Enum.Bare.{same_true}
use Rattle.guppy_data.specs.contracts.platform.ternary.EnabledTernary.{the_type}
use Rattle.guppy_data.specs.declared.platform.ternary.EnabledTernary.TheVariants.{Enabled}
use Rattle.guppy_data.specs.Platform.{texts_value}
use Rattle.guppy_data.proofs.Ternaries.{greatest-next, greatest-decided}
use Rattle.guppy_data.proofs.platform.status.PlatformEval.eval_all.Goals as goal

pub loop-platform-preserved : goal.loop-platform-preserved
loop-platform-preserved g c =
    greatest-next (texts_value (g.E.TargetEval.answer c.args.eval.now) c.args.self.specs.now) c.args.platforms.now c.loop-platform.platform-index c.platform-item.result c.loop-platform-test.true c.platform-item.is c.loop-platform.value c.eval.result c.bitor-value.result c.loop-platform.invariant c.eval.ensures c.bitor-value.ensures

pub returns-then-eq : goal.returns-then-eq
returns-then-eq g c =
    greatest-decided (texts_value (g.E.TargetEval.answer c.args.eval.now) c.args.self.specs.now) c.args.platforms.now c.loop-platform.platform-index c.platform-item.result c.loop-platform-test.true c.platform-item.is c.loop-platform.value c.eval.result c.bitor-value.result c.loop-platform.invariant c.eval.ensures c.bitor-value.ensures (same_true the_type (search rules) c.bitor-value.result Enabled (sym c.if-eq.ensures))
