use Rattle.std.proofs.Common.{◌≢◌}
use Rattle.std.specs.List.{AllWithin}
use Rattle.guppy_data.specs.BuildTargetId.{recorded_id, seen_id}
use Rattle.guppy.proofs.metadata.targets.target_with_id.Given as goal

abbrev pub invariant-loop-target : goal.invariant-loop-target
invariant-loop-target l = AllWithin (λ t. recorded_id t.id ≢ seen_id l.id) l.targets 0 l.target-index
