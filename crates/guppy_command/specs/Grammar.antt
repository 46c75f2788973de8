-- How arguments read: options, each with its value where it takes one, and other words.
use Rattle.std.specs.Prelude.{◌≡◌, ℕ, ◌==◌, nat_eq, nat_lt, Bool, true, false, ◌||◌, List, [], ◌∷◌, ◌++◌, length, map, Option, Some, None, Result, Ok, Err, codes, if◌then◌else◌}
use Rattle.std.specs.List.{after_first, before_first, find, position_or_len, starts_with}
use Rattle.std.specs.Option.{option_map_or}
use Rattle.std.specs.Str.{byte, bytes_eq}

-- an option: what it is called, whether it takes a value, whether it may come again, and the commands that take it,
-- where not all do
pub record OptionRow : Type 0 where
  pub name : List ℕ
  pub takes_value : Bool
  pub repeats : Bool
  pub commands : Option (List (List ℕ))

-- what a program takes: these options, anywhere or in front of other words alone, and these commands
pub record Program : Type 0 where
  pub options : List OptionRow
  pub anywhere : Bool
  pub commands : List (List ℕ)

-- an option by its name, with its value where it takes one, or another word
pub data Argument : Type 0 where
  option : List ℕ → Option (List ℕ) → Argument
  word : List ℕ → Argument

-- why arguments ask nothing: no option is called so; the option lacks its value, takes none, comes again,
-- or is not the command's; there is no command, or none is called so; the words behind the command don't fit it, or the
-- value no kinds, no resolver or no format; the command's answer is none that flags tell; a platform has no file with what is set there, or a file no platform; so of the host;
-- the folder to leave out is all; the value names no folder and package; no path is given; the file of a platform can't
-- be read, or has a bad line behind so many; a file with paths can't be read, or one of them isn't ended; the file with the
-- state before can't be read
pub data Misread : Type 0 where
  no_option : List ℕ → Misread
  no_value : List ℕ → Misread
  needless_value : List ℕ → Misread
  repeated : List ℕ → Misread
  not_taken : List ℕ → List ℕ → Misread
  no_command : Misread
  unknown_command : List ℕ → Misread
  bad_words : List ℕ → Misread
  bad_kinds : List ℕ → Misread
  bad_resolver : List ℕ → Misread
  bad_format : List ℕ → Misread
  no_flags : List ℕ → Misread
  lone_platform : Misread
  lone_host : Misread
  all_ignored : List ℕ → Misread
  bad_also : List ℕ → Misread
  no_paths : Misread
  cfgs_failed : List ℕ → Misread
  bad_cfg : List ℕ → ℕ → Misread
  paths_failed : List ℕ → Misread
  unended_paths : List ℕ → Misread
  before_failed : List ℕ → Misread

-- the word begins as an option does
abbrev pub is_dashed : List ℕ → Bool
is_dashed text = starts_with nat_eq text (codes "-")

abbrev pub is_equals : ℕ → Bool
is_equals b = b == byte "="

-- the name of an option, as `--kinds` in `--kinds=dev`
abbrev pub name_in : List ℕ → List ℕ
name_in text = before_first is_equals text

-- its value in the same word, as `dev`
abbrev pub value_in : List ℕ → Option (List ℕ)
value_in text = if nat_lt (position_or_len is_equals text) (length text)
    then Some (after_first is_equals text) else None

-- the option that is called so
abbrev pub called : List OptionRow → List ℕ → Option OptionRow
called options name = find (λ row. bytes_eq row.name name) options

-- an option alone, or with its value, in the same word or the next, and the words behind it
abbrev pub valued_at : Bool → List ℕ → List (List ℕ) → Result (Argument × List (List ℕ)) Misread
valued_at false text words =
    option_map_or (λ value. Err (needless_value (name_in text))) (value_in text) (Ok (option (name_in text) None, words))
valued_at true text [] =
    option_map_or (λ value. Ok (option (name_in text) (Some value), [])) (value_in text) (Err (no_value (name_in text)))
valued_at true text (next ∷ words) = option_map_or (λ value. Ok (option (name_in text) (Some value), next ∷ words))
    (value_in text) (Ok (option (name_in text) (Some next), words))

-- the option at the front of the words, and the words behind it
abbrev pub option_at : List OptionRow → List ℕ → List (List ℕ) → Result (Argument × List (List ℕ)) Misread
option_at options text words = option_map_or (λ row. valued_at row.takes_value text words)
    (called options (name_in text)) (Err (no_option (name_in text)))

-- the argument at the front of the words, and the words behind it
abbrev pub first_at : Program → List ℕ → List (List ℕ) → Result (Argument × List (List ℕ)) Misread
first_at p text words = if is_dashed text then option_at p.options text words else Ok (word text, words)

-- options may stand here or further on
abbrev pub goes_on : Program → List ℕ → Bool
goes_on p text = is_dashed text || p.anywhere

-- these arguments, before those that are read further on, or before why there are none
abbrev pub all_before : List Argument → Result (List Argument) Misread → Result (List Argument) Misread
all_before front (Ok arguments) = Ok (front ++ arguments)
all_before front (Err misread) = Err misread

-- the words read as these arguments, one after another, or not, and why
pub data Reads (p : Program) : List (List ℕ) → Result (List Argument) Misread → Type 0 where
  ended : Reads p [] (Ok [])
  others : {text : List ℕ} {words : List (List ℕ)} → goes_on p text ≡ false
      → Reads p (text ∷ words) (Ok (map word (text ∷ words)))
  one : {text : List ℕ} {words behind : List (List ℕ)} {argument : Argument} {outcome : Result (List Argument) Misread}
      → goes_on p text ≡ true → first_at p text words ≡ Ok (argument, behind) → Reads p behind outcome
      → Reads p (text ∷ words) (all_before (argument ∷ []) outcome)
  stuck : {text : List ℕ} {words : List (List ℕ)} {misread : Misread}
      → goes_on p text ≡ true → first_at p text words ≡ Err misread → Reads p (text ∷ words) (Err misread)
