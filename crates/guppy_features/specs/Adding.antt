-- Clauses that are added to a list, as a relation between bodies and heads states them.
use Rattle.std.specs.Prelude.{◌≡◌, ◌⊎◌, ℕ, ◌<◌, Option, Some, List, ◌++◌, Contains, option_to_list}
use Rattle.guppy_closure.specs.declared.clause.Clause.{Clause}
use Rattle.guppy_closure.specs.Clauses.{InBody}
use Rattle.guppy_closure.specs.Named.{body_of}

-- what was there is kept, each new clause is the relation's, and each of the relation's is there, or follows from less
pub record Adds {F : Type 0} (R : List F → F → Type 0) (old new : List (Clause F)) : Type 0 where
  pub kept : (c : Clause F) → Contains old c → Contains new c
  pub sound : (c : Clause F) → Contains new c → Contains old c ⊎ R (body_of c) c.head
  pub whole : (body : List F) (f : F) → R body f
      → (c : Clause F) × Contains new c × (c.head ≡ f) × ((b : F) → InBody c b → Contains body b)

module _ {F : Type 0} where
  -- the head, if there is one, where these two hold, as far as they are there
  abbrev pub Where : Option F → Option F → Option F → List F → F → Type 0
  Where first second head body f = (body ≡ option_to_list first ++ option_to_list second) × (head ≡ Some f)

  -- what the relation states, where this holds, too, if it is there
  abbrev pub Behind : Option F → (List F → F → Type 0) → List F → F → Type 0
  Behind first R body f = (gate : List F) × (body ≡ option_to_list first ++ gate) × R gate f

  -- what one of two relations states
  abbrev pub Either : (List F → F → Type 0) → (List F → F → Type 0) → List F → F → Type 0
  Either R S body f = R body f ⊎ S body f

  -- what the relation states, if so
  abbrev pub If : Type 0 → (List F → F → Type 0) → List F → F → Type 0
  If P R body f = P × R body f

  -- what the relation of one of the elements states
  abbrev pub OfSome : {X : Type 0} → List X → (X → List F → F → Type 0) → List F → F → Type 0
  OfSome {X} xs R body f = (x : X) × Contains xs x × R x body f

  -- what the relation of one of the numbers below n states
  abbrev pub OfBelow : ℕ → (ℕ → List F → F → Type 0) → List F → F → Type 0
  OfBelow n R body f = (i : ℕ) × (i < n) × R i body f
