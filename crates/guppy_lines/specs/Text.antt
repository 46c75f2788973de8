-- What the lines of an input say.
use Rattle.std.specs.Prelude.{◌≡◌, ℕ, ◌+◌, ◌==◌, Bool, true, false, ◌&&◌, ◌||◌, not, List, [], ◌∷◌, take, Option, Some, None, option_map, is_some, slice_get, codes, if◌then◌else◌}
use Rattle.std.specs.List.{AllPass, filter_map, slice_split}
use Rattle.std.specs.Str.{bytes_eq, is_utf8}
use Rattle.std.specs.Str.Lines.{lines}
use Rattle.guppy_data.specs.declared.texts.dependency_kind.DependencyKind.{DependencyKind}
use Rattle.guppy_command.specs.Text.{section_of, is_empty}

-- what a line says: a package with this ID, or a link from one to another in this section
pub data Statement : Type 0 where
  a_package : List ℕ → Statement
  a_link : List ℕ → List ℕ → DependencyKind → Statement

-- what stands before, between and after the spaces
unfoldable pub words : List ℕ → List (List ℕ)
words text = slice_split (λ b. b == 32) text

abbrev pub words_after : Option (List ℕ) → List (List ℕ)
words_after None = []
words_after (Some text) = words text

-- `package ID` or `link FROM TO SECTION`, no word of it empty
abbrev pub statement_of_words : List (List ℕ) → Option Statement
statement_of_words (word ∷ id ∷ []) =
    if bytes_eq word (codes "package") && not (is_empty id) then Some (a_package id) else None
statement_of_words (word ∷ from ∷ to ∷ section ∷ []) =
    if bytes_eq word (codes "link") && (not (is_empty from) && not (is_empty to)) then option_map
    (a_link from to) (section_of section) else None
statement_of_words _ = None

abbrev pub statement_of_text : List ℕ → Option Statement
statement_of_text text = statement_of_words (words text)

-- what a line says, if it is UTF-8 and has one of the two forms
abbrev pub statement_of : List ℕ → Option Statement
statement_of line = if is_utf8 line then statement_of_text line else None

-- a line is good that is empty or says something
abbrev pub is_good : List ℕ → Bool
is_good line = is_empty line || is_some (statement_of line)

-- what the lines of an input say, one after another
abbrev pub statements_of : List ℕ → List Statement
statements_of input = filter_map statement_of (lines input)

abbrev pub IsAllGood : List ℕ → Type 0
IsAllGood input = AllPass is_good (lines input)

-- the line of this number is the first bad one, where all lines are counted from 1
pub record IsFirstBadLine (input : List ℕ) (number : ℕ) : Type 0 where
  pub before : ℕ
  pub counted : number ≡ before + 1
  pub line : List ℕ
  pub stands : slice_get (lines input) before ≡ Some line
  pub bad : is_good line ≡ false
  pub good_before : AllPass is_good (take before (lines input))
