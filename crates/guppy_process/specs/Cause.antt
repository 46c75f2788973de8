-- What a fault of a program is blamed on, whatever its input looks like.
use Rattle.std.specs.Prelude.{ℕ, List, Bool, true, false, Option, Some, None, Result, Ok, Err}
use Rattle.guppy_data.specs.declared.texts.error.Error.{Error}
use Rattle.guppy_data.specs.declared.texts.error.Error.TheVariants.{OutOfMemory}

-- why there is no answer on what Cargo builds: the word means no member; Cargo refuses this of a command line's features;
-- the package, the first word, has no feature that the second one names, or has it on nowhere; or its optional dependency
-- isn't resolved
pub data BuildCause : Type 0 where
  no_member : List ℕ → BuildCause
  unknown_feature : List ℕ → BuildCause
  lacks_feature : List ℕ → List ℕ → BuildCause
  feature_off : List ℕ → List ℕ → BuildCause
  unresolved : List ℕ → List ℕ → BuildCause

-- an error of the library, which also tells that memory ran out; the arguments, or that they could not
-- be had; a word, and a text that tells what it may mean; two words, from whose first package no links
-- lead to the second one's; what a member is called that can be published by itself, and one that it
-- needs and that can't; why there is no answer on what Cargo builds; the state before, by the text of why it is none; what
-- the input says; the source; the sink.
-- A program says which of its faults is blamed on what, and `IsRun` when each comes
pub data Cause : Type 0 where
  library : Error → Cause
  bad_arguments : Cause
  ambiguous : List ℕ → List ℕ → Cause
  no_walk : List ℕ → List ℕ → Cause
  unpublishable : List ℕ → List ℕ → Cause
  build : BuildCause → Cause
  bad_before : List ℕ → Cause
  bad_input : Cause
  input_failed : Cause
  output_failed : Cause

-- the cause of the fault, where there is one
abbrev pub caused : {T Fault : Type 0} → (Fault → Cause) → Result T Fault → Option Cause
caused cause (Ok x) = None
caused cause (Err fault) = Some (cause fault)

abbrev pub is_input_fault : Option Cause → Bool
is_input_fault (Some input_failed) = true
is_input_fault _ = false

abbrev pub is_output_fault : Option Cause → Bool
is_output_fault (Some output_failed) = true
is_output_fault _ = false

-- the error tells that memory ran out, or P holds
abbrev pub OrMemory : Type 0 → Error → Type 0
OrMemory P OutOfMemory = Unit {0}
OrMemory P _ = P

-- the input could not be read, or memory ran out
abbrev pub IsReadFault : Cause → Type 0
IsReadFault (library error) = OrMemory ⊥ error
IsReadFault input_failed = Unit {0}
IsReadFault _ = ⊥
