-- The facts that one fact needs.
use Rattle.std.specs.Prelude.{◌≡◌, ◌⊎◌, ◌↔◌, ℕ, Bool, Some, List, slice_get, Contains}
use Rattle.guppy_search.specs.IxSet.{IsIn, IsSubset}
use Rattle.guppy_closure.specs.declared.clause.Clause.{Clause}
use Rattle.guppy_closure.specs.Clauses.{InBody, IsMet}
use Rattle.guppy_closure.specs.Derived.{HasClause}

-- of each of these clauses whose head is in the set, all of the body is
abbrev pub HasBodies : List (Clause ℕ) → List ℕ → List Bool → Type 0
HasBodies clauses ns set = (n : ℕ) (c : Clause ℕ) → Contains ns n → slice_get clauses n ≡ Some c
    → IsIn set c.head → IsMet c set

-- the set has the fact f, and with the head of each of these clauses its body, and nothing else
pub record Needs (clauses : List (Clause ℕ)) (ns : List ℕ) (f : ℕ) (facts set : List Bool) : Type 0 where
  pub fact : IsIn set f
  pub within : IsSubset set facts
  pub bodies : HasBodies clauses ns set
  pub needed : (h : ℕ) → IsIn set h
      → (h ≡ f) ⊎ HasClause clauses ns (λ c. IsIn set c.head × InBody c h)

-- the steps are those of these clauses whose heads are in the set
abbrev pub AreSteps : List (Clause ℕ) → List ℕ → List Bool → List ℕ → Type 0
AreSteps clauses ns set steps = (n : ℕ) (c : Clause ℕ) → slice_get clauses n ≡ Some c
    → Contains steps n ↔ (Contains ns n × IsIn set c.head)
