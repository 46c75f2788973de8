use Rattle.std.proofs.Common.{[], map, take}
use Rattle.json.specs.Value.{value_view}
use Rattle.guppy_declared.specs.Grown.{IsGrown}
use Rattle.guppy_declared.specs.Parts.{IsMemberAt}
use Rattle.guppy_declared.specs.Shown.{member_shown}
use Rattle.guppy_declared.proofs.members_among.Given as goal

abbrev pub invariant-loop-value : goal.invariant-loop-value
invariant-loop-value l = IsGrown (IsMemberAt (value_view l.metadata)) (map value_view (take l.value-index l.packages)) [] (map member_shown l.members.items)
