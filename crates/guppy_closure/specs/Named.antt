-- Facts of any kind, and their places in a list of those that are named.
use Rattle.std.specs.Prelude.{◌≡◌, ◌↔◌, ⊤, ℕ, Bool, Option, Some, None, List, [], ◌∷◌, ◌++◌, length, slice_get, flat_map, if◌then◌else◌, option_to_list, Contains}
use Rattle.std.specs.List.Sorted.{IsStrictlySortedBy}
use Rattle.std.specs.declared.cmp.Ordering.{Ordering}
use Rattle.std.specs.declared.cmp.Ordering.TheVariants.{Equal}
use Rattle.guppy_closure.specs.declared.clause.Clause.{Clause}
use Rattle.guppy_closure.specs.Clauses.{Holds}
use Rattle.guppy_closure.specs.Derived.{IsFound}
use Rattle.guppy_search.specs.IxSet.{IsIn}

-- facts that compare as equal are one
abbrev pub IsExact : {F : Type 0} → (F → F → Ordering) → Type 0
IsExact {F} cmp = (f g : F) → cmp f g ≡ Equal → f ≡ g

-- the facts of the body
abbrev pub body_of : {F : Type 0} → Clause F → List F
body_of c = option_to_list c.first ++ option_to_list c.second

-- the facts that the clause names
abbrev pub facts_of : {F : Type 0} → Clause F → List F
facts_of c = body_of c ++ c.head ∷ []

-- the list has each fact that the clauses name
abbrev pub HasNames : {F : Type 0} → List (Clause F) → List F → Type 0
HasNames {F} clauses names = (f : F) → Contains (flat_map facts_of clauses) f → Contains names f

-- the fact stands at the place
abbrev pub StandsAt : {F : Type 0} → List F → F → ℕ → Type 0
StandsAt names f p = slice_get names p ≡ Some f

-- those of the facts whose place is in the set
abbrev pub held : {F : Type 0} → List Bool → List F → List F
held [] fs = []
held (b ∷ set) [] = []
held (b ∷ set) (f ∷ fs) = if b then f ∷ held set fs else held set fs

module _ {F G : Type 0} (R : F → G → Type 0) where
  -- neither is there, or both are, and one stands for the other
  abbrev pub IsSameFact : Option F → Option G → Type 0
  IsSameFact None None = ⊤
  IsSameFact None (Some g) = ⊥
  IsSameFact (Some f) None = ⊥
  IsSameFact (Some f) (Some g) = R f g

  -- each fact of one stands for that of the other
  pub record IsSameClause (c : Clause F) (d : Clause G) : Type 0 where
    pub first : IsSameFact c.first d.first
    pub second : IsSameFact c.second d.second
    pub head : R c.head d.head

  -- the same clauses in the same order
  pub record AreSame (clauses : List (Clause F)) (others : List (Clause G)) : Type 0 where
    pub size : length others ≡ length clauses
    pub each : (n : ℕ) (c : Clause F) (d : Clause G) → slice_get clauses n ≡ Some c
        → slice_get others n ≡ Some d → IsSameClause c d

-- the numbered clauses are these by the places of their facts, and the set has what holds by them
pub record Knows {F : Type 0} (cmp : F → F → Ordering) (clauses : List (Clause F)) (names : List F)
    (numbered : List (Clause ℕ)) (set : List Bool) (steps : List ℕ) : Type 0 where
  pub exact : IsExact cmp
  pub order : IsStrictlySortedBy cmp names
  pub same : AreSame (StandsAt names) clauses numbered
  pub count : length set ≡ length names
  pub found : IsFound numbered set steps
  pub holds : (p : ℕ) → IsIn set p ↔ Holds numbered p
