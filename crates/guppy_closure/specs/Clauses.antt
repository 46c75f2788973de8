-- Which facts hold.
use Rattle.std.specs.Prelude.{◌≡◌, ◌⊎◌, ℕ, ◌<◌, Bool, true, ◌&&◌, Option, Some, None, List, slice_get}
use Rattle.std.specs.Option.{is_none}
use Rattle.guppy_search.specs.IxSet.{has, IsIn}
use Rattle.guppy_closure.specs.declared.clause.Clause.{Clause}

-- the fact stands in the body
abbrev pub InBody : {F : Type 0} → Clause F → F → Type 0
InBody c f = (c.first ≡ Some f) ⊎ (c.second ≡ Some f)

-- each fact that the clause names is below the count
pub record IsWithin (count : ℕ) (c : Clause ℕ) : Type 0 where
  pub head : c.head < count
  pub body : (f : ℕ) → InBody c f → f < count

-- a fact holds where it is the head of a clause, and all of its body holds
pub data Holds {F : Type 0} (clauses : List (Clause F)) : F → Type 0 where
  by : {f : F} (n : ℕ) (c : Clause F) → slice_get clauses n ≡ Some c → c.head ≡ f
      → ((b : F) → InBody c b → Holds clauses b) → Holds clauses f

-- what has the head of each clause of whose body it has all facts
abbrev pub IsClosed : {F : Type 0} → List (Clause F) → (F → Type 0) → Type 0
IsClosed {F} clauses S = (n : ℕ) (c : Clause F) → slice_get clauses n ≡ Some c
    → ((b : F) → InBody c b → S b) → S c.head

-- each clause of the first list is one of the second
abbrev pub AreAmong : {F : Type 0} → List (Clause F) → List (Clause F) → Type 0
AreAmong {F} fewer more = (n : ℕ) (c : Clause F) → slice_get fewer n ≡ Some c
    → (m : ℕ) × (slice_get more m ≡ Some c)

-- whether the fact, if there is one, is in the set
abbrev pub is_there : Option ℕ → List Bool → Bool
is_there (Some f) set = has set f
is_there None set = true

-- whether all of the body is in the set
abbrev pub is_met : Clause ℕ → List Bool → Bool
is_met c set = is_there c.first set && is_there c.second set

-- all of the body is in the set
abbrev pub IsMet : Clause ℕ → List Bool → Type 0
IsMet c set = (b : ℕ) → InBody c b → IsIn set b

-- whether the body has no fact
abbrev pub is_given : Clause ℕ → Bool
is_given c = is_none c.first && is_none c.second
