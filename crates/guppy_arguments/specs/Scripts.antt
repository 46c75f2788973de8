-- The options of the scripts.
use Rattle.std.specs.Prelude.{ℕ, Bool, List, ◌++◌, map}
use Rattle.guppy_command.specs.Asked.{is_among}
use Rattle.guppy_arguments.specs.Table.{option_names}
use Rattle.guppy_arguments.specs.declared.scripts.TheConstants.{SCRIPT_OPTIONS}

-- what they are called
abbrev pub script_names : List (List ℕ)
script_names = map (λ name. name.now) SCRIPT_OPTIONS.now

-- one of them is called so
abbrev pub is_of_scripts : List ℕ → Bool
is_of_scripts = is_among script_names

-- what the program's options are called, and then those of the scripts
abbrev pub all_names : List (List ℕ)
all_names = option_names ++ script_names
