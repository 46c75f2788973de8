use Rattle.std.proofs.Common.{◌≡◌, take, map}
use Rattle.guppy_data.specs.Ternary.{greatest}
use Rattle.guppy_data.specs.Platform.{texts_value}
use Rattle.guppy_data.proofs.platform.status.PlatformEval.eval_all.Given as goal

abbrev pub invariant-loop-platform : goal.invariant-loop-platform
invariant-loop-platform g l = l.value ≡ greatest (map (texts_value (g.E.TargetEval.answer l.eval) l.self.specs.now) (take l.platform-index l.platforms))
