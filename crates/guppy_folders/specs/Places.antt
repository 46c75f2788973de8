-- Where paths lead, each `.` and `..` resolved, as far as their components tell.
use Rattle.std.specs.Prelude.{◌⊎◌, ℕ, List, [], ◌∷◌, ◌++◌, reverse, Contains}
use Rattle.guppy_data.specs.Path.{Part, Root, Current, Parent, Name, components}
use Rattle.guppy_folders.specs.Folders.{IsInside}

-- the way to a place, its last component first, and `..` behind it: that leaves out a name, stays at the root,
-- and else is kept
abbrev pub up : List Part → List Part
up (Name text ∷ way) = way
up (Root ∷ way) = Root ∷ way
up (Parent ∷ way) = Parent ∷ (Parent ∷ way)
up (Current ∷ way) = Parent ∷ way
up [] = Parent ∷ []

-- the way, and one more component behind it: the root begins anew
abbrev pub stepped : List Part → Part → List Part
stepped way Root = Root ∷ []
stepped way Current = way
stepped way Parent = up way
stepped way (Name text) = Name text ∷ way

-- the way, and more components behind it
abbrev pub walked : List Part → List Part → List Part
walked way [] = way
walked way (part ∷ parts) = walked (stepped way part) parts

-- the place that the components lead to
abbrev pub resolved : List Part → List Part
resolved parts = reverse (walked [] parts)

-- the place that the path leads to, where a relative one begins at the root of the workspace
abbrev pub place : List ℕ → List ℕ → List Part
place root path = resolved (components root ++ components path)

-- the folder of the place that the path leads to
abbrev pub place_above : List ℕ → List ℕ → List Part
place_above root path = resolved (components root ++ (components path ++ Parent ∷ []))

-- one of the two places holds the other
abbrev pub Meets : List Part → List Part → Type 0
Meets folder place = IsInside folder place ⊎ IsInside place folder

-- one of the places holds the folder, or the folder one of them
abbrev pub MeetsOne : List Part → List (List Part) → Type 0
MeetsOne folder places = (place : List Part) × Contains places place × Meets folder place
