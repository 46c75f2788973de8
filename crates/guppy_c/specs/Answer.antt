-- How a call is refused that writes a text.
use Rattle.std.specs.Prelude.{◌≡◌, ◌≢◌, ℕ, List}
use Rattle.guppy_data.specs.declared.texts.error.Error.TheVariants.{OutOfMemory}
use Rattle.guppy_process.specs.declared.fault.Fault.TheVariants.{Library}
use Rattle.guppy_arguments.specs.declared.fault.CargoFault.{CargoFault}
use Rattle.guppy_arguments.specs.declared.fault.CargoFault.TheVariants.{Program}
use Rattle.guppy_arguments.specs.Fault.{fault_text}
use Rattle.guppy_cargo.specs.Words.{IsJsonFault}

-- the text tells the fault, which isn't that memory ran out
abbrev pub Refuses : CargoFault → List ℕ → Type 0
Refuses fault text = (fault ≢ Program (Library OutOfMemory)) × (text ≡ fault_text fault)

-- the text tells why the arguments get no answer of the JSON
abbrev pub IsRefusal : List ℕ → List ℕ → List ℕ → Type 0
IsRefusal args json text = (fault : CargoFault) × IsJsonFault args json fault × Refuses fault text
