-- The folder that a file lies in, and the path to it from another folder.
use Rattle.std.specs.Prelude.{◌≡◌, ◌-◌, ◌++◌, ◌&&◌, ℕ, Bool, true, false, not, if◌then◌else◌, List, [], ◌∷◌, length, take, map, codes}
use Rattle.std.specs.List.{list_any}
use Rattle.std.specs.Str.{bytes_eq}
use Rattle.guppy_data.specs.Path.{Part, Root, Current, Parent, Name, components}

abbrev pub is_same : Part → Part → Bool
is_same Root Root = true
is_same Current Current = true
is_same Parent Parent = true
is_same (Name text) (Name other) = bytes_eq text other
is_same _ _ = false

abbrev pub is_parent : Part → Bool
is_parent Parent = true
is_parent _ = false

-- whether a path begins at the root
abbrev pub is_absolute : List Part → Bool
is_absolute (Root ∷ parts) = true
is_absolute _ = false

-- what two paths have behind the components that they share at the front
abbrev pub parted : List Part → List Part → List Part × List Part
parted (part ∷ parts) (other ∷ others) =
    if is_same part other then parted parts others else (part ∷ parts, other ∷ others)
parted parts others = (parts, others)

-- the folder that a file lies in: its components but for the last
abbrev pub folder_of : List Part → List Part
folder_of file = take (length file - 1) file

-- whether a path leads from the root to a file: both begin at `/`, and what only the root has is free of `..`, from
-- which no way back is known
abbrev pub leads : List Part → List Part → Bool
leads root file = is_absolute root && is_absolute file && not (list_any is_parent (parted root file).0)

-- the path from the root to the folder of a file: up out of what only the root has, and down to the folder
abbrev pub way : List Part → List Part → List Part
way root file = map (λ _. Parent) (parted root file).0 ++ folder_of (parted root file).1

-- the folder of a file from the root, or its own path where none leads there
abbrev pub folder_from : List Part → List Part → List Part
folder_from root file = if leads root file then way root file else folder_of file

abbrev pub part_text : Part → List ℕ
part_text Root = codes "/"
part_text Current = codes "."
part_text Parent = codes ".."
part_text (Name text) = text

-- a component with a slash behind it, which the root is itself
abbrev pub with_slash : Part → List ℕ
with_slash Root = codes "/"
with_slash part = part_text part ++ codes "/"

-- the text of a path: its components, with a slash between them
abbrev pub text_of : List Part → List ℕ
text_of [] = []
text_of (part ∷ []) = part_text part
text_of (part ∷ next ∷ parts) = with_slash part ++ text_of (next ∷ parts)

-- this is the text of the folder of the manifest from the root
abbrev pub IsFolderFrom : List ℕ → List ℕ → List ℕ → Type 0
IsFolderFrom root manifest folder = folder ≡ text_of (folder_from (components root) (components manifest))
