-- Which packages the paths touch, and the folders that this is told by.
use Rattle.std.specs.Prelude.{◌≡◌, ◌⊎◌, ◌↔◌, ℕ, Bool, List, length, Contains, IsSomeAnd}
use Rattle.guppy_search.specs.IxSet.{IsIn}
use Rattle.guppy_data.specs.Path.{Part, components}
use Rattle.guppy_data.specs.declared.records.PackageRecord.{PackageRecord}
use Rattle.guppy_graph.specs.Graph.{GraphData}
use Rattle.guppy_graph.specs.Members.{IsMember}
use Rattle.guppy.specs.Query.{IsSetWhere}
use Rattle.guppy_folders.specs.Places.{place, MeetsOne}
use Rattle.guppy_affected.specs.Folders.{folder_at, HasTargetElsewhere, Given, HasFolderGiven, Changes}
use Rattle.guppy_folders.specs.Folders.{HoldsOne}
use Rattle.guppy_folders.specs.Touched.{OfOne}
use Rattle.guppy_affected.specs.Affected.{IsEveryones}

-- one of the paths is everyone's
abbrev pub IsForAll : List PackageRecord → List (List ℕ) → List (List ℕ) → Type 0
IsForAll packages paths ignored = OfOne paths ignored (IsEveryones packages)

-- a change at one of the paths is one of the package at the position
abbrev pub IsTouched : GraphData → List (List ℕ) → List (List ℕ) → List Given → ℕ → Type 0
IsTouched g paths ignored also p = OfOne paths ignored (λ path. Changes g also path p)

-- one of the paths is everyone's, and the set is that of the members; or none is, and it is that of the
-- packages that they change
abbrev pub AreChanged : GraphData → List (List ℕ) → List (List ℕ) → List Given → List Bool → Type 0
AreChanged g paths ignored also set =
    (IsForAll g.packages paths ignored × IsSetWhere g.packages (IsMember g.packages) set)
    ⊎ ((¬ IsForAll g.packages paths ignored)
    × IsSetWhere g.packages (IsTouched g paths ignored also) set)

-- the folder of the package at the position is one of these, or lies in one of the paths
abbrev pub HasFolderIn : List PackageRecord → List (List Part) → List (List Part) → ℕ → Type 0
HasFolderIn packages folders paths p = IsSomeAnd (folder_at packages p)
    (λ own. Contains folders (components own) ⊎ HoldsOne paths (components own))

-- one of the package's targets lies elsewhere, in a folder that meets one of the places, or one that is given to it
-- does
abbrev pub HasOtherFolder : GraphData → List Given → List (List Part) → ℕ → Type 0
HasOtherFolder g also places p = HasTargetElsewhere g (λ folder. MeetsOne folder places) p
    ⊎ HasFolderGiven g also (λ folder. MeetsOne folder places) p

-- the one or the other holds of the package at the position
abbrev pub IsChangedBy : GraphData → List Given → List (List Part) → List (List Part) → List (List Part) → ℕ
    → Type 0
IsChangedBy g also folders paths places p =
    HasFolderIn g.packages folders paths p ⊎ HasOtherFolder g also places p

-- the set has the position, too, where P holds of it, and else is as before
abbrev pub IsAdded : GraphData → (ℕ → Type 0) → ℕ → List Bool → List Bool → Type 0
IsAdded g P p set more = (P p × (length more ≡ length g.packages)
    × ((q : ℕ) → IsIn more q ↔ (IsIn set q ⊎ (q ≡ p))))
    ⊎ ((¬ P p) × (more ≡ set))

-- exactly the places that the paths that count lead to
abbrev pub ArePlaces : List ℕ → List (List ℕ) → List (List ℕ) → List (List Part) → Type 0
ArePlaces root paths ignored places = (found : List Part)
    → Contains places found ↔ OfOne paths ignored (λ path. place root path ≡ found)
