-- The IDs of marks that one list has and the other one hasn't, and the packages that are none of these.
use Rattle.std.specs.Prelude.{◌≡◌, ◌⊎◌, ℕ, List, Contains}
use Rattle.guppy_data.specs.declared.records.PackageRecord.{PackageRecord}
use Rattle.guppy_graph.specs.Ids.{IsKnown}
use Rattle.guppy_changes.specs.Shown.{Marked}

-- what was there is kept; each mark of the first list is one of the second, or its ID is there; and each new ID is that
-- of a mark of the first list that isn't one of the second
pub record AddsMissing (xs ys : List Marked) (old new : List (List ℕ)) : Type 0 where
  pub kept : (id : List ℕ) → Contains old id → Contains new id
  pub each : (m : Marked) → Contains xs m → Contains ys m ⊎ Contains new m.0
  pub sound : (id : List ℕ) → Contains new id
      → Contains old id ⊎ ((m : Marked) × (m.0 ≡ id) × Contains xs m × (¬ Contains ys m))

-- the same of two lists, either way
pub record AreDiffering (xs ys : List Marked) (ids : List (List ℕ)) : Type 0 where
  pub here : (m : Marked) → Contains xs m → Contains ys m ⊎ Contains ids m.0
  pub there : (m : Marked) → Contains ys m → Contains xs m ⊎ Contains ids m.0
  pub only : (id : List ℕ) → Contains ids id → (m : Marked) × (m.0 ≡ id)
      × ((Contains xs m × (¬ Contains ys m)) ⊎ (Contains ys m × (¬ Contains xs m)))

-- the ID is known, and none of these
abbrev pub IsKept : List PackageRecord → List (List ℕ) → List ℕ → Type 0
IsKept packages ids id = IsKnown packages id × (¬ Contains ids id)
