-- Where facts stand in bodies.
use Rattle.std.specs.Prelude.{◌≡◌, ℕ, ◌+◌, ◌<◌, ◌≤◌, Option, Some, List, [], ◌∷◌, length, slice_get, slice_index, Contains}
use Rattle.guppy_closure.specs.declared.clause.Clause.{Clause}
use Rattle.guppy_closure.specs.Counts.{fact_count}

-- the facts of the bodies by their places, two a clause
abbrev pub slots : List (Clause ℕ) → List (Option ℕ)
slots [] = []
slots (c ∷ cs) = c.first ∷ c.second ∷ slots cs

-- the mark, one more than a place or 0, leads to these places, each by the mark that the one before it has
abbrev pub Leads : List ℕ → ℕ → List ℕ → Type 0
Leads earlier mark [] = mark ≡ 0
Leads earlier mark (p ∷ places) = (mark ≡ p + 1) × (p < length earlier)
    × (slice_index earlier p ≤ p) × Leads earlier (slice_index earlier p) places

-- the mark leads to each place that has the fact, and to as many as have it
pub record IsRow (facts : List (Option ℕ)) (earlier : List ℕ) (f mark : ℕ) : Type 0 where
  pub places : List ℕ
  pub leads : Leads earlier mark places
  pub all : (p : ℕ) → slice_get facts p ≡ Some (Some f) → Contains places p
  pub count : length places ≡ fact_count facts f

-- the mark of each fact leads to its places
pub record AreLinked (facts : List (Option ℕ)) (last earlier : List ℕ) : Type 0 where
  pub size : length earlier ≡ length facts
  pub rows : (f : ℕ) → f < length last → IsRow facts earlier f (slice_index last f)
