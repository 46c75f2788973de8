use Rattle.std.proofs.Common.{ℕ, ◌<◌, All, length}
use Rattle.guppy_features_tests.proofs.initials.members_of.Given as goal

abbrev pub invariant-loop-name : goal.invariant-loop-name
invariant-loop-name l = All (λ (p : ℕ). p < length l.graph.packages) l.members.items
