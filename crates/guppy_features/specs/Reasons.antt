-- Why a fact holds, in steps.
use Rattle.std.specs.Prelude.{◌≡◌, ◌⊎◌, ◌↔◌, ℕ, List, [], ◌∷◌, ◌++◌, Contains, option_map, option_to_list, slice_get}
use Rattle.std.specs.List.{flat_map}
use Rattle.guppy_search.specs.Resolve.{EachAfter}
use Rattle.guppy_closure.specs.declared.clause.Clause.{Clause}
use Rattle.guppy_closure.specs.Clauses.{InBody, Holds}
use Rattle.guppy_closure.specs.Relations.{HoldsBy}
use Rattle.guppy_features.specs.declared.fact.Fact.{Fact}
use Rattle.guppy_features.specs.declared.reason.Reason.{Reason}

-- the facts that the step's follows from
abbrev pub grounds : Reason → List Fact
grounds r = option_to_list r.first ++ option_to_list r.second

-- one of the steps has the fact
abbrev pub IsReached : List Reason → Fact → Type 0
IsReached steps f = (r : Reason) × Contains steps r × (r.fact ≡ f)

-- by the relation the step's fact follows from facts of steps before it, none of which has it already
pub record IsReason (C : List Fact → Fact → Type 0) (before : List Reason) (r : Reason) : Type 0 where
  pub follows : C (grounds r) r.fact
  pub reached : (g : Fact) → Contains (grounds r) g → IsReached before g
  pub new : ¬ IsReached before r.fact

-- each step is a reason, by those before it
abbrev pub AreReasons : (List Fact → Fact → Type 0) → List Reason → Type 0
AreReasons C = EachAfter (IsReason C)

-- the last step has the fact
abbrev pub EndsIn : List Reason → Fact → Type 0
EndsIn steps f = (before : List Reason) × (r : Reason) × (steps ≡ before ++ r ∷ []) × (r.fact ≡ f)

-- each step has the fact, or one that another step's follows from
abbrev pub AreNeeded : List Reason → Fact → Type 0
AreNeeded steps f = (r : Reason) → Contains steps r
    → (r.fact ≡ f) ⊎ ((next : Reason) × Contains steps next × Contains (grounds next) r.fact)

-- the step is a way in which the fact follows from facts that hold
pub record IsWay (C : List Fact → Fact → Type 0) (f : Fact) (r : Reason) : Type 0 where
  pub fact : r.fact ≡ f
  pub follows : C (grounds r) r.fact
  pub holds : (g : Fact) → Contains (grounds r) g → HoldsBy C g

-- these are ways, and any other one needs all that one of these does
pub record AreWays (C : List Fact → Fact → Type 0) (f : Fact) (ways : List Reason) : Type 0 where
  pub sound : (r : Reason) → Contains ways r → IsWay C f r
  pub whole : (body : List Fact) → C body f → ((g : Fact) → Contains body g → HoldsBy C g)
      → (r : Reason) × Contains ways r × ((g : Fact) → Contains (grounds r) g → Contains body g)

-- the clause as a step
abbrev pub reason_of : Clause Fact → Reason
reason_of c = record { fact = c.head; first = c.first; second = c.second }

-- the clauses of these numbers as steps
abbrev pub reasons_of : List (Clause Fact) → List ℕ → List Reason
reasons_of clauses = flat_map (λ n. option_to_list (option_map reason_of (slice_get clauses n)))

-- the clause's head is the fact, and all of its body holds by the clauses
abbrev pub Leads : List (Clause Fact) → Fact → Clause Fact → Type 0
Leads clauses f c = (c.head ≡ f) × ((b : Fact) → InBody c b → Holds clauses b)

-- the step is that of one of the clauses looked at that leads to the fact
abbrev pub IsLeading : List (Clause Fact) → List (Clause Fact) → Fact → Reason → Type 0
IsLeading looked clauses f r = (c : Clause Fact) × Contains looked c × (reason_of c ≡ r) × Leads clauses f c

-- the steps are all of these
abbrev pub AreLeading : List (Clause Fact) → List (Clause Fact) → Fact → List Reason → Type 0
AreLeading looked clauses f steps = (r : Reason) → Contains steps r ↔ IsLeading looked clauses f r
