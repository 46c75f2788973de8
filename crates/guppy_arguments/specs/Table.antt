-- The options and commands of `guppy-cargo`.
use Rattle.std.specs.Prelude.{ℕ, true, List, [], map, is_some, option_map}
use Rattle.std.specs.List.{find}
use Rattle.std.specs.Option.{option_map_or}
use Rattle.std.specs.Str.{bytes_eq}
use Rattle.guppy_command.specs.Grammar.{Program}
use Rattle.guppy_arguments.specs.declared.table.TheConstants.{OPTIONS, COMMANDS, USAGES}

-- what the commands are called
abbrev pub command_names : List (List ℕ)
command_names = map (λ name. name.now) COMMANDS.now

-- options may stand anywhere
abbrev pub cargo_program : Program
cargo_program = record {
  options = map (λ row. record {
    name = row.0.now;
    takes_value = is_some row.1;
    repeats = row.2;
    commands = option_map (λ commands. map (λ name. name.now) commands.now) row.3;
  }) OPTIONS.now;
  anywhere = true;
  commands = command_names;
}

-- what the options are called
abbrev pub option_names : List (List ℕ)
option_names = map (λ row. row.0.now) OPTIONS.now

-- the commands, each with what to give
abbrev pub usages : List (List ℕ × List ℕ)
usages = map (λ row. (row.0.now, row.1.now)) USAGES.now

-- what to give of the command
abbrev pub usage_of : List ℕ → List ℕ
usage_of command = option_map_or (λ usage. usage.1) (find (λ usage. bytes_eq usage.0 command) usages) []
