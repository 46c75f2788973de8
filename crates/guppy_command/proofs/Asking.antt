-- What arguments ask, case by case.
use Rattle.std.proofs.Common.{◌≡◌, refl, ℕ, List, ◌∷◌, true, false, Option, Some, Ok, Err}
use Rattle.guppy_command.specs.Grammar.{OptionRow, Program, Argument, option, repeated, unknown_command, called}
use Rattle.guppy_command.specs.Asked.{is_among, command_in, has, judged, may_repeat, takes}

-- a command
pub known_command : (p : Program) (text : List ℕ) (words : List (List ℕ)) → is_among p.commands text ≡ true → command_in p (text ∷ words) ≡ Ok (text, words)
known_command p text words known = rw known refl

-- another word in its place
pub no_such_command : (p : Program) (text : List ℕ) (words : List (List ℕ)) → is_among p.commands text ≡ false → command_in p (text ∷ words) ≡ Err (unknown_command text)
no_such_command p text words unknown = rw unknown refl

-- an option that some commands take
pub takes_among : (options : List OptionRow) (command name : List ℕ) (row : OptionRow) (commands : List (List ℕ)) → called options name ≡ Some row → row.commands ≡ Some commands → is_among commands command ≡ takes options command name
takes_among options command name row commands is some = rw (is, some) refl

module _ (options : List OptionRow) (command name : List ℕ) (value : Option (List ℕ)) (behind : List Argument) (taken : takes options command name ≡ true) where
  -- an option that comes again, and may not
  pub judged_again : has name behind ≡ true → may_repeat options name ≡ false → judged options command (option name value) behind ≡ Err (repeated name)
  judged_again again once = rw (taken, again, once) refl

  -- one that may
  pub judged_often : has name behind ≡ true → may_repeat options name ≡ true → judged options command (option name value) behind ≡ Ok tt
  judged_often again often = rw (taken, again, often) refl

  -- one that comes once
  pub judged_once : has name behind ≡ false → judged options command (option name value) behind ≡ Ok tt
  judged_once once = rw (taken, once) refl
