-- What it costs to follow the links of positions.
use Rattle.std.specs.Prelude.{◌≡◌, ◌↔◌, ℕ, ◌+◌, Bool, true, false, List, [], ◌∷◌, length}
use Rattle.guppy_search.specs.declared.ix.direction.DependencyDirection.{DependencyDirection}
use Rattle.guppy_search.specs.declared.graph_core.link.Link.{Link}
use Rattle.guppy_search.specs.IxSet.{IsIn}
use Rattle.guppy_search.specs.Links.{links_at}

-- what the positions cost that are not in the set, where the list begins at the position i
abbrev pub missing_cost : (ℕ → ℕ) → ℕ → List Bool → ℕ
missing_cost cost i [] = 0
missing_cost cost i (true ∷ s) = missing_cost cost (i + 1) s
missing_cost cost i (false ∷ s) = cost i + missing_cost cost (i + 1) s

-- how many links leave the positions that are not in the set
abbrev pub links_left : {E : Type 0} → DependencyDirection → List (Link E) → List Bool → ℕ
links_left d links s = missing_cost (λ p. length (links_at d links p)) 0 s

-- the looks have grown by one for each link that leaves one of the positions P, of n positions; the
-- set has exactly these
pub record AreLookedAt {E : Type 0} (d : DependencyDirection) (links : List (Link E)) (n : ℕ)
    (P : ℕ → Type 0) (looks looks' : ℕ) : Type 0 where
  pub set : List Bool
  pub count : length set ≡ n
  pub members : (p : ℕ) → IsIn set p ↔ P p
  pub looked : looks' + links_left d links set ≡ looks + length links
