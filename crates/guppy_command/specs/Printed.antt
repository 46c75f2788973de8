-- Texts on lines, as answers are printed.
use Rattle.std.specs.Prelude.{ℕ, Bool, List, [], ◌∷◌, ◌++◌, codes, if◌then◌else◌}
use Rattle.std.specs.List.{flat_map, join_by}
use Rattle.guppy_command.specs.declared.options.Kinds.{Kinds}
use Rattle.guppy_command.specs.declared.options.Options.{Options}

abbrev pub newline : List ℕ
newline = codes "\n"

-- what ends a line of an answer that is a list: a newline, or a NUL
abbrev pub line_end : Options → List ℕ
line_end options = if options.nul_ended then 0 ∷ [] else newline

-- the text, with this end
abbrev pub line_of : List ℕ → List ℕ → List ℕ
line_of end text = text ++ end

-- these texts, one a line, each with this end
abbrev pub lines_of : List ℕ → List (List ℕ) → List ℕ
lines_of end texts = flat_map (line_of end) texts

-- these texts, parted by spaces
abbrev pub joined : List (List ℕ) → List ℕ
joined texts = join_by (λ text. text) (codes " ") texts

abbrev pub truth_line : Bool → List ℕ
truth_line answer = line_of newline (if answer then codes "true" else codes "false")

-- the names of the kinds
abbrev pub kind_names : Kinds → List (List ℕ)
kind_names kinds = (if kinds.normal then codes "normal" ∷ [] else [])
    ++ (if kinds.build then codes "build" ∷ [] else []) ++ (if kinds.dev then codes "dev" ∷ [] else [])
