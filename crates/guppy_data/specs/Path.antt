-- The components of a path, and the order that they make.
use Rattle.std.specs.Prelude.{ℕ, Bool, if◌then◌else◌, ◌==◌, ◌||◌, nat_eq, codes, List, [], ◌∷◌, Option, None, Some}
use Rattle.std.specs.List.{cons_option, flat_map, slice_split, starts_with}
use Rattle.std.specs.Str.{byte, bytes_eq}
use Rattle.std.specs.Ordering.{nat_cmp, on, then_cmp}
use Rattle.std.specs.declared.cmp.Ordering.{Ordering}
use Rattle.std.specs.Cmp.Lexicographic.{slice_cmp}
use Rattle.std.specs.Hash.{HashWrites, u8, str}

-- one component of a path
pub data Part : Type 0 where
  Root : Part
  Current : Part
  Parent : Part
  Name : List ℕ → Part

abbrev pub is_slash : ℕ → Bool
is_slash b = b == byte "/"

-- what stands between two slashes: an empty piece and `.` name nothing
abbrev pub part_of : List ℕ → List Part
part_of piece = if bytes_eq piece (codes "") || bytes_eq piece (codes ".") then []
    else if bytes_eq piece (codes "..") then Parent ∷ [] else Name piece ∷ []

-- the components of a text cut at its slashes
abbrev pub parts : List ℕ → List Part
parts bs = flat_map part_of (slice_split is_slash bs)

-- a slash at the front is the root, and else a first piece `.` the current directory
abbrev pub lead : List ℕ → Option Part
lead bs = if starts_with nat_eq bs (codes "/") then Some Root else if bytes_eq bs
    (codes ".") || starts_with nat_eq bs (codes "./") then Some Current else None

abbrev pub components : List ℕ → List Part
components bs = cons_option (lead bs) (parts bs)

-- Root < Current < Parent < Name
abbrev pub rank_of : Part → ℕ
rank_of Root = 0
rank_of Current = 1
rank_of Parent = 2
rank_of (Name bs) = 3

abbrev pub name_of : Part → List ℕ
name_of Root = []
name_of Current = []
name_of Parent = []
name_of (Name bs) = bs

-- by rank, and two names by their bytes
abbrev pub part_cmp : Part → Part → Ordering
part_cmp = then_cmp (on rank_of nat_cmp) (on name_of (slice_cmp nat_cmp))

-- by the lists of components: of two that differ the first difference decides, and a list that
-- begins another is less
abbrev pub path_cmp : List ℕ → List ℕ → Ordering
path_cmp = on components (slice_cmp part_cmp)

-- what a component feeds a hasher
abbrev pub part_hash : Part → HashWrites
part_hash Root = u8 0
part_hash Current = u8 1
part_hash Parent = u8 2
part_hash (Name bs) = str bs

abbrev pub path_hash : List ℕ → HashWrites
path_hash bs = flat_map part_hash (components bs)
