-- Which members of a workspace are to be tested after files changed.
use Rattle.std.specs.Prelude.{◌≡◌, ◌≢◌, ◌⊎◌, ◌↔◌, ℕ, List}
use Rattle.guppy_search.specs.declared.ix.direction.DependencyDirection.TheVariants.{Forward, Reverse}
use Rattle.guppy_search.specs.Reach.{LinkStep, Walk}
use Rattle.guppy_core.specs.Listing.{Stands, IsOnce, Precedes}
use Rattle.guppy_data.specs.declared.records.PackageRecord.{PackageRecord}
use Rattle.guppy_graph.specs.FirmCycles.{HasNoFirmCycle}
use Rattle.guppy_graph.specs.Graph.{GraphData}
use Rattle.guppy_graph.specs.Members.{IsMember}
use Rattle.guppy_graph.specs.Ordered.{FirmStep}
use Rattle.guppy.specs.Listed.{ids_at, positions_listed}
use Rattle.guppy.specs.Query.{SetData}
use Rattle.guppy_affected.specs.Folders.{Given, Holds, IsHeldByRoot, Changes}
use Rattle.guppy_affected.specs.Named.{HasOneOf}
pub use Rattle.guppy_folders.specs.Touched.{IsIgnored, OfOne, IsPath, IsOfWorkspace, IsOfRootsTargets}

-- the path is everyone's: it is of the workspace, or no folder of a package of this machine holds it, or only
-- the workspace's own does, and there it isn't where Cargo looks for that package's targets
abbrev pub IsEveryones : List PackageRecord → List ℕ → Type 0
IsEveryones packages path = IsOfWorkspace path ⊎ (((p : ℕ) → ¬ Holds packages path p)
    ⊎ (IsHeldByRoot packages path × (¬ IsOfRootsTargets path)))

-- the one package is the other, or a link of any kind leads from it to a package from which a walk over
-- links that aren't dev-only leads to the other: its tests may be built from the other
abbrev pub IsTestedWith : GraphData → ℕ → ℕ → Type 0
IsTestedWith g p q = (p ≡ q)
    ⊎ ((r : ℕ) × LinkStep Forward g.links p r × Walk (FirmStep g.links) r q)

-- a change at the path is one to the package at the position: the path is everyone's, or the change is one of
-- a package that it is tested with
abbrev pub Affects : GraphData → List Given → List ℕ → ℕ → Type 0
Affects g also path p = IsEveryones g.packages path
    ⊎ ((q : ℕ) × Changes g also path q × IsTestedWith g p q)

-- the package at the position is a member, and one of the paths that aren't to be left out affects it
abbrev pub IsAffected : GraphData → List (List ℕ) → List (List ℕ) → List Given → ℕ → Type 0
IsAffected g paths ignored also p =
    IsMember g.packages p × OfOne paths ignored (λ path. Affects g also path p)

-- one of the packages with these IDs is one that the package at the position is tested with
abbrev pub IsTestedWithOne : GraphData → List (List ℕ) → ℕ → Type 0
IsTestedWithOne g changed p = (q : ℕ) × HasOneOf g.packages changed q × IsTestedWith g p q

-- the package at the position is a member, and one of the paths affects it, or it is tested with one of these
abbrev pub IsAffectedAfter : GraphData → List (List ℕ) → List (List ℕ) → List (List ℕ) → List Given → ℕ → Type 0
IsAffectedAfter g changed paths ignored also p =
    IsAffected g paths ignored also p ⊎ (IsMember g.packages p × IsTestedWithOne g changed p)

-- the graph's order of packages from its end, kept to a set of them
abbrev pub IsListedInReverse : GraphData → List ℕ → Type 0
IsListedInReverse g order =
    (set : SetData) × (set.graph ≡ g) × (order ≡ positions_listed Reverse set)

-- those of which P holds, each once, as a set is listed in reverse: where links that aren't dev-only have no cycle, each
-- after those to which a walk over these leads from it
pub record IsOrderOf (g : GraphData) (P : ℕ → Type 0) (order : List ℕ) : Type 0 where
  pub once : IsOnce order
  pub members : (p : ℕ) → Stands order p ↔ P p
  pub listed : IsListedInReverse g order
  pub after : HasNoFirmCycle g → (x y : ℕ) → Stands order x → Stands order y → x ≢ y
      → Walk (FirmStep g.links) x y → Precedes order y x

-- the IDs of the packages of such an order
pub record AreIdsOf (g : GraphData) (P : ℕ → Type 0) (ids : List (List ℕ)) : Type 0 where
  pub order : List ℕ
  pub is_order : IsOrderOf g P order
  pub ids_are : ids ≡ ids_at g.packages order

-- the members that the paths affect
abbrev pub IsAffectedOrder : GraphData → List (List ℕ) → List (List ℕ) → List Given → List ℕ → Type 0
IsAffectedOrder g paths ignored also = IsOrderOf g (IsAffected g paths ignored also)

abbrev pub AreAffectedIds : GraphData → List (List ℕ) → List (List ℕ) → List Given → List (List ℕ) → Type 0
AreAffectedIds g paths ignored also = AreIdsOf g (IsAffected g paths ignored also)

-- and those that are tested with one of the packages with these IDs, too
abbrev pub AreAffectedIdsAfter : GraphData → List (List ℕ) → List (List ℕ) → List (List ℕ) → List Given
    → List (List ℕ) → Type 0
AreAffectedIdsAfter g changed paths ignored also = AreIdsOf g (IsAffectedAfter g changed paths ignored also)
