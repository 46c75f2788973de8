-- Arguments as one run of bytes, and why they get no answer.
use Rattle.std.specs.Prelude.{◌≡◌, ◌⊎◌, ℕ, List}
use Rattle.std.specs.Str.{IsUtf8}
use Rattle.guppy_process.specs.declared.fault.Fault.TheVariants.{BadArguments}
use Rattle.guppy_program.specs.Run.{IsAnswered, IsAnswerFault}
use Rattle.guppy_arguments.specs.declared.fault.CargoFault.{CargoFault}
use Rattle.guppy_arguments.specs.declared.fault.CargoFault.TheVariants.{Program}
use Rattle.guppy_arguments.specs.Fault.{cause_of}
pub use Rattle.guppy_arguments.specs.Words.{arguments_in}
use Rattle.guppy_cargo.specs.Json.{json_format}

-- what a file has stands in the place of its name
abbrev pub is_in_place : List ℕ → List ℕ → Type 0
is_in_place name bytes = bytes ≡ name

-- the text is an answer to the arguments, of the graph that the JSON says
abbrev pub IsJsonAnswer : List ℕ → List ℕ → List ℕ → Type 0
IsJsonAnswer args json text =
    IsAnswered json_format is_in_place (arguments_in args) json (λ output. output ≡ text)

-- the arguments are no UTF-8, or they ask nothing, or the fault is one of the JSON or of the command on its graph, or
-- memory ran out
abbrev pub IsJsonFault : List ℕ → List ℕ → CargoFault → Type 0
IsJsonFault args json fault = ((¬ IsUtf8 args) × (fault ≡ Program BadArguments))
    ⊎ IsAnswerFault json_format is_in_place (arguments_in args) json fault (cause_of fault)
