use Rattle.std.proofs.Common.{[], map, take}
use Rattle.guppy_declared.specs.Grown.{IsGrown}
use Rattle.guppy_declared.specs.Parts.{IsPairOf}
use Rattle.guppy_declared.specs.Shown.{member_shown, pair_shown}
use Rattle.guppy_declared.proofs.pairs_among.Given as goal

abbrev pub invariant-loop-member : goal.invariant-loop-member
invariant-loop-member l = IsGrown (IsPairOf (map member_shown l.members)) (map member_shown (take l.member-index l.members)) [] (map pair_shown l.pairs.items)
