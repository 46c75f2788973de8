use Rattle.std.proofs.Common.{map, take}
use Rattle.json.specs.Value.{value_view}
use Rattle.guppy_declared.specs.Grown.{IsGrown}
use Rattle.guppy_declared.specs.Parts.{IsPairAskedBy}
use Rattle.guppy_declared.specs.Shown.{member_shown, pair_shown}
use Rattle.guppy_declared.proofs.add_asked.Given as goal

abbrev pub invariant-loop-dependency : goal.invariant-loop-dependency
invariant-loop-dependency l = IsGrown (IsPairAskedBy (map member_shown l.members) l.from) (map value_view (take l.dependency-index l.dependencies)) (map pair_shown l.fn.pairs.items) (map pair_shown l.pairs.items)
