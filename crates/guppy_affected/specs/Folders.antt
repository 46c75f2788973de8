-- The folders of the packages of this machine, and to which of these packages a path belongs.
use Rattle.std.specs.Prelude.{◌≡◌, ◌⊎◌, ℕ, ◌≤◌, List, length, map, Contains, Option, IsSomeAnd, slice_get}
use Rattle.std.specs.Borrow.{Bor}
use Rattle.guppy_data.specs.Path.{Part, components}
use Rattle.guppy_data.specs.declared.records.BuildTargetRecord.{BuildTargetRecord}
use Rattle.guppy_data.specs.declared.records.PackageRecord.{PackageRecord}
use Rattle.guppy_data.specs.PackageSource.{local_path, recorded_origin}
use Rattle.guppy_graph.specs.Graph.{GraphData}
use Rattle.guppy_graph.specs.Ids.{HasId}
use Rattle.guppy_graph.specs.Keys.{or_empty, item_key}
pub use Rattle.guppy_folders.specs.Folders.{LiesIn, IsInside}
pub use Rattle.guppy_folders.specs.Places.{place, place_above, Meets}

-- the folder of a package of this machine: the path of a member, or the path that the package comes from
abbrev pub folder_of : PackageRecord → Option (List ℕ)
folder_of r = local_path (recorded_origin r.source)

-- the folder of the package at the position, where it is one of this machine
abbrev pub folder_at : List PackageRecord → ℕ → Option (List ℕ)
folder_at = item_key folder_of

-- the folder of the package at the position holds the path
abbrev pub Holds : List PackageRecord → List ℕ → ℕ → Type 0
Holds packages path p = IsSomeAnd (folder_at packages p) (λ folder. LiesIn folder path)

-- how many components the folder of the package at the position has
abbrev pub depth : List PackageRecord → ℕ → ℕ
depth packages p = length (components (or_empty (folder_at packages p)))

-- the path belongs to the package at the position: its folder holds the path, and no longer one does. Of
-- packages with one folder it belongs to each
pub record Belongs (packages : List PackageRecord) (path : List ℕ) (p : ℕ) : Type 0 where
  pub holds : Holds packages path p
  pub longest : (q : ℕ) → Holds packages path q → depth packages q ≤ depth packages p

-- no folder of a package of this machine holds the path but the workspace's own, which has no components
abbrev pub IsHeldByRoot : List PackageRecord → List ℕ → Type 0
IsHeldByRoot packages path = (p : ℕ) → Holds packages path p → depth packages p ≡ 0

-- the path holds the folder of the package at the position, or is it
abbrev pub IsBelow : List PackageRecord → List ℕ → ℕ → Type 0
IsBelow packages path p = IsSomeAnd (folder_at packages p) (λ folder. LiesIn path folder)

-- the source of the target lies in a folder outside of this one, with P
abbrev pub LiesElsewhere : List ℕ → List Part → (List Part → Type 0) → BuildTargetRecord → Type 0
LiesElsewhere root own P t = (¬ IsInside own (place_above root t.path)) × P (place_above root t.path)

-- one of the targets does
abbrev pub OneElsewhere : List ℕ → List Part → (List Part → Type 0) → List BuildTargetRecord → Type 0
OneElsewhere root own P targets =
    (t : BuildTargetRecord) × Contains targets t × LiesElsewhere root own P t

-- the package at the position is one of this machine, and the source of one of its targets lies outside of its
-- folder, in a folder with P
abbrev pub HasTargetElsewhere : GraphData → (List Part → Type 0) → ℕ → Type 0
HasTargetElsewhere g P p = IsSomeAnd (folder_at g.packages p) (λ own. IsSomeAnd (slice_get g.packages p)
    (λ r. OneElsewhere g.workspace.root (place g.workspace.root own) P r.build_targets.items))

-- the path leads into the folder of such a target's source, or that folder lies where it leads
abbrev pub IsElsewhere : GraphData → List ℕ → ℕ → Type 0
IsElsewhere g path p =
    HasTargetElsewhere g (λ folder. Meets folder (place g.workspace.root path)) p

-- a folder that is given to a package beside its own, and the ID of that package
abbrev pub Given : Type 0
Given = List ℕ × List ℕ

-- the folders that are given, each with the ID of its package
abbrev pub given_in : List (Bor (List ℕ) × List ℕ) → List Given
given_in = map (λ given. (given.0.now, given.1))

-- the folder is given to the package at the position, with P of where it is
abbrev pub IsGivenTo : GraphData → (List Part → Type 0) → ℕ → Given → Type 0
IsGivenTo g P p given = HasId g.packages given.1 p × P (place g.workspace.root given.0)

-- one of the folders is
abbrev pub HasFolderGiven : GraphData → List Given → (List Part → Type 0) → ℕ → Type 0
HasFolderGiven g also P p = (given : Given) × Contains also given × IsGivenTo g P p given

-- the path leads into such a folder, or that folder lies where it leads
abbrev pub IsAlso : GraphData → List Given → List ℕ → ℕ → Type 0
IsAlso g also path p = HasFolderGiven g also (λ folder. Meets folder (place g.workspace.root path)) p

-- a change at the path is one of the package at the position: the path belongs to it, or holds its folder, or is
-- where a target of it lies elsewhere, or in a folder that is given to it
abbrev pub Changes : GraphData → List Given → List ℕ → ℕ → Type 0
Changes g also path p = Belongs g.packages path p
    ⊎ (IsBelow g.packages path p ⊎ (IsElsewhere g path p ⊎ IsAlso g also path p))
