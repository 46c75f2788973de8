use Rattle.std.proofs.Common.{◌≡◌, ℕ, List, map}
use Rattle.guppy_command.proofs.asked.paired.Given as goal

abbrev pub invariant-loop-first : goal.invariant-loop-first
invariant-loop-first l = map {B = List ℕ × List ℕ} (λ named. (named.0.now, named.1.now)) l.pairs.items ≡ map (λ pair. (pair.0.now.now, pair.1.now.now)) l.yielded
