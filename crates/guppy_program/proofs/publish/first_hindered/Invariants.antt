use Rattle.std.proofs.Common.{All, map, take}
use Rattle.guppy_program.specs.Publish.{IsFree}
use Rattle.guppy_program.proofs.publish.first_hindered.Given as goal

abbrev pub invariant-loop-id : goal.invariant-loop-id
invariant-loop-id l = All (IsFree l.graph) (take l.id-index (map (λ id. id.now) l.ids))
