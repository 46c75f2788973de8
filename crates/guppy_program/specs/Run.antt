-- What a run of a program does.
use Rattle.std.specs.Prelude.{◌≡◌, ◌⊎◌, ℕ, Bool, List, ◌++◌, Option, Some, None, IfSome, Result, Err, OnOk}
use Rattle.std.specs.Io.KnownBytes.{IsAtEnd, Appends}
use Rattle.guppy_graph.specs.Graph.{GraphData}
use Rattle.guppy_process.specs.Cause.{Cause, library, bad_arguments, ambiguous, no_walk, unpublishable, build, bad_input, input_failed, output_failed, OrMemory, caused, is_input_fault, is_output_fault, bad_before}
use Rattle.guppy_command.specs.Asked.{Asked}
use Rattle.guppy_print.specs.Format.{Format}
use Rattle.guppy_program.specs.Loaded.{IsLoaded, AreRefused, details_for, IsBadBefore, IsLoadedBefore}
use Rattle.guppy_print.specs.Answer.{Answer}
use Rattle.guppy_program.specs.Answer.{IsFaultOn, shown}
use Rattle.guppy_program.specs.Builds.{places_of}
use Rattle.guppy_print.specs.Printed.{IsPrinted, called}
use Rattle.guppy_program.specs.Since.{IsAnswerSince}

-- the output is an answer to what is asked, of this graph, and of that of the state before, where there is one: of the
-- command's answer it has what the options have shown, each package as they have it called
pub record IsAnswerOf {Fault : Type 0} (format : Format Fault) (asked : Asked) (before : Option GraphData)
    (g : GraphData) (output : List ℕ) : Type 0 where
  pub answer : Answer
  pub answers : IsAnswerSince asked before (format.meant g.packages) asked.command g answer
  pub printed : IsPrinted format asked.options g.packages (shown asked.options g.packages answer) output

-- the output is an answer to what is asked, of the graph that the input says, with the links that are
-- asked for
abbrev pub IsAnswerTo : {Fault : Type 0} → Format Fault → Asked → List ℕ → List ℕ → Type 0
IsAnswerTo format asked input output = (g : GraphData)
    × IsLoaded format asked input g
    × ((before : Option GraphData) × IsLoadedBefore format asked before × IsAnswerOf format asked before g output)

-- the command is refused so, of this graph, with each package as the options have it called
abbrev pub IsRefusedOf : {Fault : Type 0} → Format Fault → Asked → List ℕ → Fault → Cause → Type 0
IsRefusedOf format asked input fault cause = (g : GraphData)
    × IsLoaded format asked input g
    × IsFaultOn format (places_of asked) (called asked.options (format.text g.packages)) asked.command g fault cause

-- the fault, with this cause, is one of the input, or of the command on this graph
abbrev pub IsFaultOf : {Fault : Type 0} → Format Fault → Asked → List ℕ → Fault → Cause → Type 0
IsFaultOf format asked input fault bad_input = format.refuses (details_for asked) input fault
IsFaultOf format asked input fault (library error) =
    OrMemory (AreRefused format asked input error
    ⊎ IsRefusedOf format asked input fault (library error)) error
IsFaultOf format asked input fault (ambiguous word texts) =
    IsRefusedOf format asked input fault (ambiguous word texts)
IsFaultOf format asked input fault (no_walk from to) =
    IsRefusedOf format asked input fault (no_walk from to)
IsFaultOf format asked input fault (unpublishable member needed) =
    IsRefusedOf format asked input fault (unpublishable member needed)
IsFaultOf format asked input fault (build cause) =
    IsRefusedOf format asked input fault (build cause)
IsFaultOf format asked input fault (bad_before text) = IsBadBefore format asked text
IsFaultOf format asked input fault _ = ⊥

-- the source has come to its end, and P holds of what was read, which is all that it had where that
-- is known
pub record OfWholeInput (old new : Option (List ℕ)) (P : List ℕ → Type 0) : Type 0 where
  pub input : List ℕ
  pub at_end : IsAtEnd new
  pub all : IfSome old (λ bytes. bytes ≡ input)
  pub holds : P input

-- the source could not be read, or it came to its end, and the fault is one of all that it had, or
-- memory ran out
abbrev pub IsSourceFault : {Fault : Type 0} → Format Fault → Asked → Option (List ℕ)
    → Option (List ℕ) → Fault → Cause → Type 0
IsSourceFault format asked old new fault bad_arguments = ⊥
IsSourceFault format asked old new fault output_failed = ⊥
IsSourceFault format asked old new fault input_failed = Unit {0}
IsSourceFault format asked old new fault (library error) = OrMemory (OfWholeInput old new
    (λ input. IsFaultOf format asked input fault (library error))) error
IsSourceFault format asked old new fault cause =
    OfWholeInput old new (λ input. IsFaultOf format asked input fault cause)

-- of arguments, where files have these bytes as far as that is known
module _ {Fault : Type 0} (format : Format Fault) (has : List ℕ → List ℕ → Type 0) (args : List (List ℕ)) where
  -- they ask something of which P holds
  abbrev pub OfAsked : (Asked → Type 0) → Type 0
  OfAsked P = (asked : Asked) × format.asks has args asked × P asked

  -- P holds of an answer to them and the input
  abbrev pub IsAnswered : List ℕ → (List ℕ → Type 0) → Type 0
  IsAnswered input P =
      OfAsked (λ asked. (output : List ℕ) × IsAnswerTo format asked input output × P output)

  -- P holds of a beginning of an answer
  abbrev pub IsBegun : List ℕ → (List ℕ → Type 0) → Type 0
  IsBegun input P = OfAsked (λ asked.
      (front rest : List ℕ) × IsAnswerTo format asked input (front ++ rest) × P front)

  -- they ask nothing, and the fault tells why, or it is one of what they ask of the input, or memory ran out
  abbrev pub IsAnswerFault : List ℕ → Fault → Cause → Type 0
  IsAnswerFault input fault bad_arguments = format.misreads has args fault
  IsAnswerFault input fault (library error) =
      OrMemory (OfAsked (λ asked. IsFaultOf format asked input fault (library error))) error
  IsAnswerFault input fault cause = OfAsked (λ asked. IsFaultOf format asked input fault cause)

  -- they ask nothing, and the fault tells why, or they ask something, the source came to its end, and the fault is
  -- one of all that it had, or memory ran out; what the devices are blamed for is said elsewhere
  abbrev pub IsRunFault : Option (List ℕ) → Option (List ℕ) → Fault → Cause → Type 0
  IsRunFault old new fault bad_arguments = format.misreads has args fault
  IsRunFault old new fault output_failed = Unit {0}
  IsRunFault old new fault (library error) =
      OrMemory (OfAsked (λ asked. IsSourceFault format asked old new fault (library error))) error
  IsRunFault old new fault cause = OfAsked (λ asked. IsSourceFault format asked old new fault cause)

-- a run that gives up before it writes leaves the sink as it was
abbrev pub WritesNothing : {W : Type 0} → W → W → Option Cause → Type 0
WritesNothing old new None = Unit {0}
WritesNothing old new (Some output_failed) = Unit {0}
WritesNothing old new (Some cause) = new ≡ old

-- what a run did to its source and its sink, and what came of it: the clauses of `run_with`
pub record IsRun {Fault T R W : Type 0} (format : Format Fault) (cause : Fault → Cause)
    (has : List ℕ → List ℕ → Type 0)
    (left : R → Option (List ℕ)) (source_failed : R → Bool)
    (written : W → Option (List ℕ)) (sink_failed : W → Bool) (args : List (List ℕ))
    (reader reader' : R) (writer writer' : W) (outcome : Result T Fault) : Type 0 where
  pub ok : OnOk outcome (OfWholeInput (left reader) (left reader')
      (λ input. IsAnswered format has args input (Appends (written writer) (written writer'))))
  pub arguments_read : caused cause outcome ≡ Some bad_arguments → reader' ≡ reader
  pub fault : (fault : Fault) → outcome ≡ Err fault
      → IsRunFault format has args (left reader) (left reader') fault (cause fault)
  pub input_fails : source_failed reader' ≡ is_input_fault (caused cause outcome)
  pub output_fails : sink_failed writer' ≡ is_output_fault (caused cause outcome)
  pub refused : WritesNothing writer writer' (caused cause outcome)
  pub begun : caused cause outcome ≡ Some output_failed
      → OfWholeInput (left reader) (left reader')
      (λ input. IsBegun format has args input (Appends (written writer) (written writer')))
