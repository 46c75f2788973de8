-- Folders as lists of components, and which of them holds a path.
use Rattle.std.specs.Prelude.{◌≡◌, ℕ, ◌≤◌, List, [], ◌∷◌, ◌++◌, length, map, All, Contains}
use Rattle.std.specs.declared.vec.Vec.{Vec}
use Rattle.std.specs.declared.alloc.Global.{Global}
use Rattle.guppy_data.specs.Path.{Part, Name, components}
use Rattle.guppy_data.specs.Component.{part_shown}
use Rattle.guppy_data.specs.declared.texts.component.Component.{Component}

-- the component is a name, not the root, `.` or `..`
abbrev pub IsName : Part → Type 0
IsName part = (name : List ℕ) × (part ≡ Name name)

-- the name stands in the list
abbrev pub HasName : List ℕ → List Part → Type 0
HasName name list = Contains list (Name name)

-- the name stands at the list's end
abbrev pub EndsInName : List ℕ → List Part → Type 0
EndsInName name list = (front : List Part) × (list ≡ front ++ Name name ∷ [])

-- the path is the folder or lies in it: the folder's components begin the path's, and behind them stand
-- names alone
abbrev pub IsInside : List Part → List Part → Type 0
IsInside folder path = (rest : List Part) × All IsName rest × (path ≡ folder ++ rest)

-- the same of a folder and a path as they are written
abbrev pub LiesIn : List ℕ → List ℕ → Type 0
LiesIn folder path = IsInside (components folder) (components path)

-- the list is empty, or its last component is no name
abbrev pub EndsInNoName : List Part → Type 0
EndsInNoName list = (front : List Part) (last : Part) → list ≡ front ++ last ∷ [] → ¬ IsName last

-- the lists of components in a set of them
abbrev pub lists_in : List (Vec Component Global) → List (List Part)
lists_in set = map (λ list. map part_shown list.items) set

-- none of the folders holds the path
abbrev pub HoldsNone : List (List Part) → List Part → Type 0
HoldsNone folders path = (folder : List Part) → Contains folders folder → ¬ IsInside folder path

-- one of the folders holds the path
abbrev pub HoldsOne : List (List Part) → List Part → Type 0
HoldsOne folders path = (folder : List Part) × Contains folders folder × IsInside folder path

-- none of the folders holds the path but the workspace's own, which has no components
abbrev pub HoldsNoneBelow : List (List Part) → List Part → Type 0
HoldsNoneBelow folders path = (folder : List Part) → Contains folders folder → IsInside folder path
    → folder ≡ []

-- the folder is one of these and holds the path, and no longer one does
pub record IsLongest (folders : List (List Part)) (path folder : List Part) : Type 0 where
  pub is_one : Contains folders folder
  pub holds : IsInside folder path
  pub longest : (other : List Part) → Contains folders other → IsInside other path
      → length other ≤ length folder
