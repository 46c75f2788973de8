-- Words and their parts.
use Rattle.std.specs.Prelude.{ℕ, Bool, true, false, List, [], ◌∷◌, Option, Some, None, codes, if◌then◌else◌}
use Rattle.std.specs.Str.{bytes_eq}
use Rattle.guppy_data.specs.declared.texts.dependency_kind.DependencyKind.{DependencyKind}
use Rattle.guppy_data.specs.declared.texts.dependency_kind.DependencyKind.TheVariants.{Normal, Development, Build}

abbrev pub section_of : List ℕ → Option DependencyKind
section_of word = if bytes_eq word (codes "normal") then Some Normal
    else (if bytes_eq word (codes "build") then Some Build else
    (if bytes_eq word (codes "dev") then Some Development else None))

abbrev pub is_empty : List ℕ → Bool
is_empty [] = true
is_empty (b ∷ bs) = false
