-- Clauses that a relation states, between a body of any length and a head.
use Rattle.std.specs.Prelude.{◌≡◌, List, Contains}
use Rattle.guppy_closure.specs.declared.clause.Clause.{Clause}
use Rattle.guppy_closure.specs.Clauses.{InBody}
use Rattle.guppy_closure.specs.Named.{body_of}

-- a fact holds where it is the head of a clause, and all of its body holds
pub data HoldsBy {F : Type 0} (C : List F → F → Type 0) : F → Type 0 where
  step : {f : F} (body : List F) → C body f → ((b : F) → Contains body b → HoldsBy C b) → HoldsBy C f

-- each of the clauses is the relation's, and each of the relation's is one of them, or follows from less
pub record AreClausesOf {F : Type 0} (C : List F → F → Type 0) (clauses : List (Clause F)) : Type 0 where
  pub sound : (c : Clause F) → Contains clauses c → C (body_of c) c.head
  pub whole : (body : List F) (f : F) → C body f
      → (c : Clause F) × Contains clauses c × (c.head ≡ f) × ((b : F) → InBody c b → Contains body b)
