use Rattle.std.proofs.Common.{◌≡◌, take}
use Rattle.guppy_data.specs.Platform.{texts_value}
use Rattle.guppy_data.proofs.platform.status.PlatformEval.eval.Given as goal

abbrev pub invariant-loop-spec : goal.invariant-loop-spec
invariant-loop-spec g l = l.value ≡ texts_value (g.E.TargetEval.answer l.eval) (take l.spec-index l.self.specs.now) l.platform
