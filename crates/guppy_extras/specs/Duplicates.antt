-- Packages that are there more than once, and the packages that need them.
use Rattle.std.specs.Prelude.{◌≡◌, ◌≢◌, ◌==◌, ◌↔◌, ℕ, List, ◌∷◌, map, slice_get}
use Rattle.std.specs.Cmp.Lexicographic.{slice_cmp}
use Rattle.std.specs.declared.cmp.Ordering.{Ordering}
use Rattle.std.specs.declared.cmp.Ordering.TheVariants.{Greater}
use Rattle.std.specs.List.{filter}
use Rattle.std.specs.Option.{option_cmp}
use Rattle.std.specs.Ordering.{nat_cmp, on, then_cmp}
use Rattle.std.specs.String.{string_bytes}
use Rattle.semver.specs.Eval.{precedence_cmp}
use Rattle.guppy_data.specs.declared.records.PackageRecord.{PackageRecord}
use Rattle.guppy_graph.specs.Graph.{GraphData}
use Rattle.guppy.specs.Listed.{ids_at}
use Rattle.guppy_core.specs.Listing.{Stands, IsOnce, Precedes}
use Rattle.guppy.specs.PackageNames.{HasPackageName}

-- another package has the name of the one at the position
abbrev pub HasNamesake : List PackageRecord → ℕ → Type 0
HasNamesake packages p = (name : List ℕ) × (q : ℕ) × (p ≢ q)
    × HasPackageName packages name p × HasPackageName packages name q

-- the order of packages by name, then by version without build metadata, and then by ID
abbrev pub by_name : PackageRecord → PackageRecord → Ordering
by_name = then_cmp (then_cmp (on (λ r. string_bytes r.name) (slice_cmp nat_cmp))
    (on (λ r. r.version) precedence_cmp)) (on (λ r. r.id) (slice_cmp nat_cmp))

-- the packages with a link to the one at the position, in the order of the links
abbrev pub needing : GraphData → ℕ → List ℕ
needing g p = map (λ l. l.from) (filter (λ l. l.to == p) g.links)

-- the IDs of the package at the position and of those that need it
abbrev pub row_of : GraphData → ℕ → List (List ℕ)
row_of g p = ids_at g.packages (p ∷ needing g p)

-- the rows of exactly the packages that have a namesake, each once, ascending in this order
pub record AreDuplicates (g : GraphData) (rows : List (List (List ℕ))) : Type 0 where
  pub order : List ℕ
  pub once : IsOnce order
  pub duplicates : (p : ℕ) → Stands order p ↔ HasNamesake g.packages p
  pub ascends : (x y : ℕ) → Precedes order x y
      → option_cmp by_name (slice_get g.packages x) (slice_get g.packages y) ≢ Greater
  pub rows_are : rows ≡ map (row_of g) order
