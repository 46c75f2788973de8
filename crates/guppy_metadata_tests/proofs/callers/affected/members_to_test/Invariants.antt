use Rattle.std.proofs.Common.{◌≡◌, map, string_bytes}
use Rattle.guppy_metadata_tests.proofs.callers.affected.members_to_test.Given as goal

abbrev pub invariant-loop-line : goal.invariant-loop-line
invariant-loop-line l = map string_bytes l.paths.items ≡ map (λ line. line.now) l.yielded
