-- What a run that has read the whole input owes.
use Rattle.std.proofs.Common.{◌≡◌, ◌⊎◌, inl, inr, sym, subst, ℕ, List, ◌++◌, length}
use Rattle.std.specs.Prelude.{Option}
use Rattle.guppy_data.specs.declared.texts.error.Error.{Error}
use Rattle.guppy_data.specs.declared.texts.error.Error.TheVariants.{PackageGraphConstructError, UnknownPackageId, UnknownFeatureId, UnknownWorkspacePath, UnknownWorkspaceName, PackageGraphInternalError, FeatureGraphInternalError, OutOfMemory}
use Rattle.guppy_graph.specs.Accepted.{distinct_ids}
use Rattle.guppy_graph.specs.Graph.{GraphData}
use Rattle.guppy_graph.specs.Ids.{DistinctBelow}
use Rattle.guppy_process.specs.Cause.{Cause, library, bad_arguments, ambiguous, no_walk, unpublishable, build, bad_before, bad_input, input_failed, output_failed, OrMemory}
use Rattle.guppy_command.specs.Asked.{Asked}
use Rattle.guppy_print.specs.Format.{Format}
use Rattle.guppy_program.specs.Loaded.{IsBadBefore, IsLoaded}
use Rattle.guppy_program.specs.Answer.{IsFaultOn}
use Rattle.guppy_print.specs.Printed.{called}
use Rattle.guppy_program.specs.Builds.{places_of}
use Rattle.guppy_program.specs.Run.{IsAnswerTo, IsBegun, IsFaultOf, IsSourceFault, OfWholeInput}

module _ {P : Type 0} where
  pub OrMemory-holds : (error : Error) → P → OrMemory P error
  OrMemory-holds (PackageGraphConstructError f) p = p
  OrMemory-holds (UnknownPackageId id) p = p
  OrMemory-holds (UnknownFeatureId id feature) p = p
  OrMemory-holds (UnknownWorkspacePath path) p = p
  OrMemory-holds (UnknownWorkspaceName name) p = p
  OrMemory-holds (PackageGraphInternalError f) p = p
  OrMemory-holds (FeatureGraphInternalError text) p = p
  OrMemory-holds OutOfMemory p = tt

of_whole-along : (old new : Option (List ℕ)) (P Q : List ℕ → Type 0) → ((input : List ℕ) → P input → Q input) → OfWholeInput old new P → OfWholeInput old new Q
of_whole-along old new P Q along is = record { input = is.input; at_end = is.at_end; all = is.all; holds = along is.input is.holds }

module _ {Fault : Type 0} (format : Format Fault) where
  -- the packages of a graph that the input says have distinct IDs
  pub loaded_distinct : (asked : Asked) (input : List ℕ) (g : GraphData) → IsLoaded format asked input g → DistinctBelow g.packages (length g.packages)
  loaded_distinct asked input g loaded =
      subst (λ packages. DistinctBelow packages (length packages)) (sym loaded.holds.1.packages_are) (loaded.holds.0 distinct_ids)

  -- a refusal of the command is a fault of the command on the input
  pub command_fault : (asked : Asked) (input : List ℕ) (g : GraphData) → IsLoaded format asked input g → (fault : Fault) (cause : Cause) → IsFaultOn format (places_of asked) (called asked.options (format.text g.packages)) asked.command g fault cause → IsFaultOf format asked input fault cause
  command_fault asked input g loaded fault (library error) is = OrMemory-holds error (inr (g, loaded, is))
  command_fault asked input g loaded fault bad_arguments is = absurd is
  command_fault asked input g loaded fault (ambiguous word choices) is = (g, loaded, is)
  command_fault asked input g loaded fault (no_walk from to) is = (g, loaded, is)
  command_fault asked input g loaded fault (unpublishable member needed) is = (g, loaded, is)
  command_fault asked input g loaded fault (build why) is = (g, loaded, is)
  command_fault asked input g loaded fault (bad_before text) is = absurd is
  command_fault asked input g loaded fault bad_input is = absurd is
  command_fault asked input g loaded fault input_failed is = absurd is
  command_fault asked input g loaded fault output_failed is = absurd is

  -- why the state before is none is a fault of what is asked, or memory ran out
  pub before_fault : (asked : Asked) (input : List ℕ) (fault : Fault) (cause : Cause) → ((text : List ℕ) × IsBadBefore format asked text × (cause ≡ bad_before text)) ⊎ (cause ≡ library OutOfMemory) → IsFaultOf format asked input fault cause
  before_fault asked input fault cause (inl (text, is, same)) = subst (IsFaultOf format asked input fault) (sym same) is
  before_fault asked input fault cause (inr same) = subst (IsFaultOf format asked input fault) (sym same) tt

  -- a fault on the whole input is one of the source
  pub source_fault : (asked : Asked) (old new : Option (List ℕ)) (fault : Fault) (cause : Cause) → OfWholeInput old new (λ input. IsFaultOf format asked input fault cause) → IsSourceFault format asked old new fault cause
  source_fault asked old new fault (library error) whole = OrMemory-holds error whole
  source_fault asked old new fault bad_arguments whole = absurd whole.holds
  source_fault asked old new fault (ambiguous word choices) whole = whole
  source_fault asked old new fault (no_walk from to) whole = whole
  source_fault asked old new fault (unpublishable member needed) whole = whole
  source_fault asked old new fault (build why) whole = whole
  source_fault asked old new fault (bad_before text) whole = whole
  source_fault asked old new fault bad_input whole = whole
  source_fault asked old new fault input_failed whole = tt
  source_fault asked old new fault output_failed whole = absurd whole.holds

  module _ (has : List ℕ → List ℕ → Type 0) (args : List (List ℕ)) (asked : Asked) (is : format.asks has args asked) (old new : Option (List ℕ)) where
    pub begun : (P : List ℕ → Type 0) (output front rest : List ℕ) → OfWholeInput old new (λ i. IsAnswerTo format asked i output) → output ≡ front ++ rest → P front
        → OfWholeInput old new (λ i. IsBegun format has args i P)
    begun P output front rest answers parts holds = of_whole-along old new (λ i. IsAnswerTo format asked i output) (λ i. IsBegun format has args i P)
        (λ i answer. (asked, is, (front, rest, rw (← parts) answer, holds))) answers
