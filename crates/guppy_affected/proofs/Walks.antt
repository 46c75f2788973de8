-- Walks with a step in front.
use Rattle.std.proofs.Common.{ℕ}
use Rattle.guppy_search.specs.Reach.{Walk, here, step}

-- a step and a walk from its end are a walk
pub walk_from : {R : ℕ → ℕ → Type 0} {a b c : ℕ} → R a b → Walk R b c → Walk R a c
walk_from r here = step here r
walk_from r (step w s) = step (walk_from r w) s
