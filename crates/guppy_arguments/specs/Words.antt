-- Arguments as one run of bytes.
use Rattle.std.specs.Prelude.{◌==◌, ℕ, List}
use Rattle.std.specs.List.{slice_split}

-- what stands before, between and after the zero bytes
abbrev pub arguments_in : List ℕ → List (List ℕ)
arguments_in bytes = slice_split (λ b. b == 0) bytes
