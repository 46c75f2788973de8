use Rattle.std.proofs.Common.{map}
use Rattle.std.specs.Prelude.{option_map}
use Rattle.guppy_arguments.proofs.NearestName.{IsNearestSoFar}
use Rattle.guppy_arguments.proofs.nearest.nearest_of.Given as goal

abbrev pub invariant-loop-name : goal.invariant-loop-name
invariant-loop-name l = IsNearestSoFar l.word (map (λ name. name.now) l.names) l.name-index l.least (option_map (λ name. name.now) l.nearest)
