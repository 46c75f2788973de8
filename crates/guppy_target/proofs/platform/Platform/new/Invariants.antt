use Rattle.std.proofs.Common.{map}
use Rattle.guppy_target.specs.Platform.{setting_of, AreLines}
use Rattle.guppy_target.proofs.platform.Platform.new.Given as goal

abbrev pub invariant-loop-line : goal.invariant-loop-line
invariant-loop-line l = AreLines (map (λ line. line.now) l.yielded) (map setting_of l.found.items)
