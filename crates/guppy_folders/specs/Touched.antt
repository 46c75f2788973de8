-- Which paths count, and the longest folders that hold them.
use Rattle.std.specs.Prelude.{◌≡◌, ◌⊎◌, ◌↔◌, ℕ, List, Option, Contains, MatchOption, codes}
use Rattle.std.specs.declared.vec.Vec.{Vec}
use Rattle.std.specs.declared.alloc.Global.{Global}
use Rattle.guppy_data.specs.Path.{Part, components}
use Rattle.guppy_data.specs.declared.texts.component.Component.{Component}
use Rattle.guppy_folders.specs.Folders.{HasName, EndsInName, LiesIn, lists_in, HoldsNone, HoldsNoneBelow, IsLongest}

-- one of the folders to leave out holds the path
abbrev pub IsIgnored : List (List ℕ) → List ℕ → Type 0
IsIgnored ignored path = (folder : List ℕ) × Contains ignored folder × LiesIn folder path

-- P holds of one of the paths that aren't to be left out
abbrev pub OfOne : List (List ℕ) → List (List ℕ) → (List ℕ → Type 0) → Type 0
OfOne paths ignored P = (path : List ℕ) × Contains paths path × (¬ IsIgnored ignored path) × P path

-- the paths have the same components
abbrev pub IsPath : List ℕ → List ℕ → Type 0
IsPath text path = components path ≡ components text

-- the path chooses a toolchain, or is or lies in a folder of Cargo's settings, wherever that is
abbrev pub IsOfSettings : List ℕ → Type 0
IsOfSettings path = EndsInName (codes "rust-toolchain") (components path)
    ⊎ (EndsInName (codes "rust-toolchain.toml") (components path)
    ⊎ HasName (codes ".cargo") (components path))

-- the path is that of the workspace's own manifest or of what Cargo locked, or is of settings
abbrev pub IsOfWorkspace : List ℕ → Type 0
IsOfWorkspace path = IsPath (codes "Cargo.toml") path ⊎ (IsPath (codes "Cargo.lock") path
    ⊎ IsOfSettings path)

-- the path is where Cargo by itself looks for the tests, examples and benchmarks of a package at the workspace's
-- root
abbrev pub IsOfRootsTests : List ℕ → Type 0
IsOfRootsTests path = LiesIn (codes "tests") path
    ⊎ (LiesIn (codes "examples") path ⊎ LiesIn (codes "benches") path)

-- the path is where Cargo by itself looks for the targets of a package at the workspace's root
abbrev pub IsOfRootsTargets : List ℕ → Type 0
IsOfRootsTargets path = IsPath (codes "build.rs") path
    ⊎ (LiesIn (codes "src") path ⊎ IsOfRootsTests path)

-- the path is of the workspace, or none of the folders holds it, or only the workspace's own, outside of where
-- Cargo looks for targets
abbrev pub IsOutside : List (List Part) → List ℕ → Type 0
IsOutside folders path = IsOfWorkspace path ⊎ (HoldsNone folders (components path)
    ⊎ (HoldsNoneBelow folders (components path) × (¬ IsOfRootsTargets path)))

-- one of the paths is outside of the folders
abbrev pub IsOneOutside : List (List Part) → List (List ℕ) → List (List ℕ) → Type 0
IsOneOutside folders paths ignored = OfOne paths ignored (IsOutside folders)

-- the folder is the longest that holds one of the paths
abbrev pub IsLongestOfOne : List (List Part) → List (List ℕ) → List (List ℕ) → List Part → Type 0
IsLongestOfOne folders paths ignored folder =
    OfOne paths ignored (λ path. IsLongest folders (components path) folder)

-- exactly the longest folders that hold the paths, and none where one of these is outside of them
pub record AreLongest (folders : List (List Part)) (paths ignored : List (List ℕ))
    (touched : List (List Part)) : Type 0 where
  pub inside : ¬ IsOneOutside folders paths ignored
  pub longest : (folder : List Part) → Contains touched folder
      ↔ IsLongestOfOne folders paths ignored folder

-- the longest folders that hold the paths were found, or nothing where one of these is outside of them
abbrev pub AreTouchedFolders : List (List Part) → List (List ℕ) → List (List ℕ)
    → Option (List (Vec Component Global)) → Type 0
AreTouchedFolders folders paths ignored found = MatchOption found
    (IsOneOutside folders paths ignored) (λ set. AreLongest folders paths ignored (lists_in set))

-- exactly the paths that count, each as the list of its components
abbrev pub AreCounted : List (List ℕ) → List (List ℕ) → List (List Part) → Type 0
AreCounted paths ignored lists = (list : List Part)
    → Contains lists list ↔ OfOne paths ignored (λ path. components path ≡ list)
