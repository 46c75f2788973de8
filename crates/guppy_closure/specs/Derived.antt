-- Lists of clauses, by number, each after those that it needs.
use Rattle.std.specs.Prelude.{◌≡◌, ◌⊎◌, ◌↔◌, ℕ, ◌<◌, ◌^◌, Bool, Some, List, [], ◌∷◌, ◌++◌, slice_get, Contains}
use Rattle.guppy_search.specs.IxSet.{IsIn}
use Rattle.guppy_search.specs.Resolve.{EachAfter}
use Rattle.guppy_closure.specs.declared.clause.Clause.{Clause}
use Rattle.guppy_closure.specs.Clauses.{InBody}

-- one of the numbers is that of a clause of which P holds
abbrev pub HasClause : {F : Type 0} → List (Clause F) → List ℕ → (Clause F → Type 0) → Type 0
HasClause {F} clauses ns P = (n : ℕ) × (c : Clause F) × Contains ns n × (slice_get clauses n ≡ Some c) × P c

-- the fact is the head of one of the clauses
abbrev pub IsDerived : {F : Type 0} → List (Clause F) → List ℕ → F → Type 0
IsDerived clauses ns f = HasClause clauses ns (λ c. c.head ≡ f)

-- each fact of the body is the head of a clause before, and its own head is that of none
pub record Follows {F : Type 0} (clauses : List (Clause F)) (before : List ℕ) (n : ℕ) : Type 0 where
  pub clause : Clause F
  pub found : slice_get clauses n ≡ Some clause
  pub body : (b : F) → InBody clause b → IsDerived clauses before b
  pub new : ¬ IsDerived clauses before clause.head

-- each clause follows from those before it
abbrev pub IsDerivation : {F : Type 0} → List (Clause F) → List ℕ → Type 0
IsDerivation clauses = EachAfter (Follows clauses)

-- the last clause has the fact as its head
abbrev pub EndsWith : {F : Type 0} → List (Clause F) → List ℕ → F → Type 0
EndsWith {F} clauses ns f = (before : List ℕ) × (n : ℕ) × (c : Clause F) × (ns ≡ before ++ n ∷ [])
    × (slice_get clauses n ≡ Some c) × (c.head ≡ f)

-- each head is the fact, or in the body of one of the clauses
abbrev pub AreNeeded : {F : Type 0} → List (Clause F) → List ℕ → F → Type 0
AreNeeded {F} clauses ns f =
    (h : F) → IsDerived clauses ns h → (h ≡ f) ⊎ HasClause clauses ns (λ c. InBody c h)

-- the set has the heads of the clauses, each of which follows from those before it
pub record IsFound (clauses : List (Clause ℕ)) (set : List Bool) (found : List ℕ) : Type 0 where
  pub order : IsDerivation clauses found
  pub derived : (f : ℕ) → IsIn set f ↔ IsDerived clauses found f
  pub small : (f : ℕ) → IsIn set f → f < 2 ^ 32
