-- Walks end to end, and walks back.
use Rattle.std.proofs.Common.{ℕ, Bool, List}
use Rattle.guppy_search.specs.declared.ix.direction.DependencyDirection.TheVariants.{Forward, Reverse}
use Rattle.guppy_search.specs.declared.graph_core.link.Link.{Link}
use Rattle.guppy_search.specs.Reach.{Step, Walk, here, step}

module _ {R : ℕ → ℕ → Type 0} where
  -- a walk and one from its end are a walk
  pub walk_on : {a b c : ℕ} → Walk R a b → Walk R b c → Walk R a c
  walk_on v here = v
  walk_on v (step w r) = step (walk_on v w) r

  -- a step and a walk from its end are a walk
  pub walk_from : {a b c : ℕ} → R a b → Walk R b c → Walk R a c
  walk_from r w = walk_on (step here r) w

-- each step in one relation is a step back in the other
pub walk_back : (R S : ℕ → ℕ → Type 0) → ((x y : ℕ) → R x y → S y x) → {a b : ℕ} → Walk R a b → Walk S b a
walk_back R S back here = here
walk_back R S back (step w r) = walk_from (back _ _ r) (walk_back R S back w)

module _ {E : Type 0} (keep : E → Bool) (links : List (Link E)) (x y : ℕ) where
  -- a step forward is a step back, and the other way round
  pub step_back : Step Forward keep links x y → Step Reverse keep links y x
  step_back s = record { number = s.number; link = s.link; found = s.found; near = s.far; far = s.near; kept = s.kept }

  pub step_forth : Step Reverse keep links x y → Step Forward keep links y x
  step_forth s = record { number = s.number; link = s.link; found = s.found; near = s.far; far = s.near; kept = s.kept }
