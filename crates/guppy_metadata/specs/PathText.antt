-- What a path's text holds while components are added to it.
use Rattle.std.specs.Prelude.{◌≡◌, Bool, true, false, not, List, [], ◌∷◌, option_map, string_bytes}
use Rattle.std.specs.List.{cons_option}
use Rattle.guppy_data.specs.Path.{Part, Root}
use Rattle.guppy_data.specs.Component.{part_shown, parts_left}
use Rattle.guppy_metadata.specs.declared.path.PathText.{PathText}
use Rattle.guppy_metadata.specs.declared.path.Rest.{Rest}
use Rattle.guppy_metadata.specs.Path.{text_of}

abbrev pub is_root : Part → Bool
is_root Root = true
is_root _ = false

-- whether a slash stands between a path of these components and another one
abbrev pub is_open : List Part → Bool
is_open [] = false
is_open (part ∷ []) = not (is_root part)
is_open (part ∷ next ∷ parts) = is_open (next ∷ parts)

-- this is the text of a path of these components
abbrev pub IsTextOf : List Part → PathText → Type 0
IsTextOf parts path = (string_bytes path.text ≡ text_of parts) × (path.is_open ≡ is_open parts)

-- what a path still has
abbrev pub rest_of : Rest → List Part
rest_of rest = cons_option (option_map part_shown rest.first) (parts_left rest.behind)
