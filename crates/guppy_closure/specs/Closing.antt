-- A set that is being closed under the clauses.
use Rattle.std.specs.Prelude.{◌≡◌, ◌⊎◌, ◌↔◌, ℕ, ◌+◌, ◌/◌, ◌≤◌, Bool, true, Some, List, [], ◌∷◌, ◌++◌, length, drop, slice_set, slice_get, Contains}
use Rattle.guppy_search.specs.IxSet.{IsIn, member_count}
use Rattle.guppy_closure.specs.declared.clause.Clause.{Clause}
use Rattle.guppy_closure.specs.Clauses.{InBody, IsMet}
use Rattle.guppy_closure.specs.Derived.{IsDerived, IsDerivation}
use Rattle.guppy_closure.specs.Places.{slots, Leads}
use Rattle.guppy_closure.specs.Counts.{given_count, held_count, owed}

-- the head was in the set or doesn't follow from it, and nothing changed; or it is put in, and clause n is found
abbrev pub LooksAt : Clause ℕ → ℕ → List Bool → List ℕ → List Bool → List ℕ → Type 0
LooksAt c n set found set' found' =
    ((IsMet c set → IsIn set c.head) × (set' ≡ set) × (found' ≡ found))
    ⊎ (IsMet c set × (¬ IsIn set c.head) × (set' ≡ slice_set set c.head true)
    × (found' ≡ found ++ n ∷ []))

-- no number
abbrev pub IsNone : ℕ → Type 0
IsNone n = ⊥

-- one of the places is in the body of clause n
abbrev pub HasPlace : List ℕ → ℕ → Type 0
HasPlace places n = (p : ℕ) × Contains places p × (p / 2 ≡ n)

-- the set has what the clauses found derive; a clause that is met has its head there, or is left to be looked at, or
-- one of its body is still to be followed, as all from place next on are. Looks spent and owed are those that the set
-- asks for.
pub record Closing (clauses : List (Clause ℕ)) (set : List Bool) (found : List ℕ) (next spent : ℕ)
    (IsLeft : ℕ → Type 0) : Type 0 where
  pub order : IsDerivation clauses found
  pub derived : (f : ℕ) → IsIn set f ↔ IsDerived clauses found f
  pub due : (n : ℕ) (c : Clause ℕ) → slice_get clauses n ≡ Some c → IsMet c set
      → IsIn set c.head ⊎ (IsLeft n ⊎ ((b : ℕ) × InBody c b × IsDerived clauses (drop next found) b))
  pub counted : length found ≡ member_count set
  pub reached : next ≤ length found
  pub looks : spent + owed clauses (slots clauses) (drop next found)
      ≡ given_count clauses + held_count set (slots clauses)

-- the places that the mark leads to are left
pub record Following (clauses : List (Clause ℕ)) (set : List Bool) (found earlier : List ℕ)
    (next looks mark : ℕ) : Type 0 where
  pub left : List ℕ
  pub leads : Leads earlier mark left
  pub closing : Closing clauses set found next (looks + length left) (HasPlace left)
