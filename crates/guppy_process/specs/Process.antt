-- How a process ends.
use Rattle.std.specs.Prelude.{◌≡◌, ℕ, true, List, ◌++◌, codes, Option, IfSome, Result, Ok, Err}
use Rattle.std.specs.Io.KnownBytes.{Appends}
use Rattle.guppy_process.specs.declared.process.Ending.{Ending}

-- the line that tells a fault of this text
abbrev pub fault_line : List ℕ → List ℕ
fault_line text = codes "error: " ++ text ++ codes "\n"

-- after an answer the status is 0 and nothing is told; after a fault it is the fault's, and the
-- sink for faults gets the line of the fault's text, if it was written whole and where the text is
-- known
abbrev pub EndsIn : {T E Fault : Type 0} → (Fault → ℕ) → (Fault → Option (List ℕ))
    → (E → Option (List ℕ)) → E → E → Result T Fault → Ending → Type 0
EndsIn status text written old new (Ok x) ending =
    (ending.status ≡ 0) × (ending.is_told ≡ true) × (new ≡ old)
EndsIn status text written old new (Err fault) ending = (ending.status ≡ status fault)
    × IfSome (text fault) (λ told. ending.is_told ≡ true → Appends (written old) (written new) (fault_line told))
