-- Cycles fit the graph that they are of.
use Rattle.std.proofs.Common.{ℕ, ◌+◌, ◌<◌, ◌≤◌, Bool, List, length, subst, arith, inl, inr}
use Rattle.std.specs.Prelude.{All}
use Rattle.std.proofs.lemmas.Option.{slice_get_within, slice_get_cases}
use Rattle.guppy_search.specs.declared.ix.direction.DependencyDirection.TheVariants.{Forward, Reverse}
use Rattle.guppy_search.specs.declared.graph_core.link.Link.{Link}
use Rattle.guppy_search.specs.Links.{EndsBelow}
use Rattle.guppy_search.proofs.SearchSteps.{far_end_below}
use Rattle.guppy_core.specs.Cycle.{IsCycle}
use Rattle.guppy_core.proofs.Lengths.{length_of_once}
use Rattle.guppy_flat.specs.Search.{FlaggedStep}

module _ (links : List (Link Bool)) (n : ℕ) (ends : All (EndsBelow n) links) where
  step_below : (x y : ℕ) → FlaggedStep Forward links x y → x < n
  step_below x y s = subst (λ z. z < n) s.near (far_end_below Reverse links n s.number s.link s.found ends)

  -- a cycle has no more positions than there are
  pub cycle_fits : (list : List ℕ) → IsCycle (FlaggedStep Forward links) list → length list ≤ n
  cycle_fits list cycle = length_of_once n list cycle.once (λ i x at.
      let within = slice_get_within list i x at in
      elim (slice_get_cases list (i + 1)).1 [
        | inl s ↦ step_below x s.0 (cycle.steps i x s.0 at s.2)
        | inr s ↦ elim (slice_get_cases list 0).1 [
          | inl z ↦ let past = s.0 in step_below x z.0 (cycle.back i x z.0 at (omega arith) z.2)
          | inr z ↦ absurd (let none = z.0 in omega arith)
        ]
      ])
