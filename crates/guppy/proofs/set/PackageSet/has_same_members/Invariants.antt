use Rattle.std.proofs.Common.{◌≡◌, drop}
use Rattle.std.specs.Bool.{beq}
use Rattle.std.specs.Cmp.Lexicographic.{pointwise}
use Rattle.guppy.proofs.set.PackageSet.has_same_members.Given as goal

abbrev pub invariant-loop-position : goal.invariant-loop-position
invariant-loop-position l =
    pointwise beq l.self.included l.other.included ≡ pointwise beq (drop l.position l.self.included) (drop l.position l.other.included)
