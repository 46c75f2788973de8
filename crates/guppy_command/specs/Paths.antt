-- Paths that a file has, as git writes them.
use Rattle.std.specs.Prelude.{ℕ, ◌==◌, Bool, ◌||◌, eqb, List, [], ◌∷◌, map, not}
use Rattle.std.specs.List.{ends_with, filter, slice_split}
use Rattle.guppy_command.specs.Command.{from_root}
use Rattle.guppy_command.specs.Text.{is_empty}

-- what stands before, between and after NULs, where that is anything
abbrev pub paths_of : List ℕ → List (List ℕ)
paths_of bytes = map from_root (filter (λ path. not (is_empty path)) (slice_split (λ b. b == 0) bytes))

-- each path is ended by a NUL
abbrev pub are_ended : List ℕ → Bool
are_ended bytes = is_empty bytes || ends_with eqb bytes (0 ∷ [])
