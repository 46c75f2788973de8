-- Why nothing is told of what Cargo builds.
use Rattle.std.proofs.Common.{◌≡◌, ⊎_elim, refl, sym, subst, ℕ, List, Some, None}
use Rattle.std.specs.Prelude.{◌⊎◌, Option, IsSomeAnd, slice_get}
use Rattle.guppy_graph.specs.Graph.{GraphData}
use Rattle.guppy_built.specs.Asked.{Choice, IsRefused}
use Rattle.guppy_built.specs.Refused.{IsBuiltFault, IsFirstOther}
use Rattle.guppy_built.specs.Why.{IsWhyFault}
use Rattle.guppy_built.specs.declared.fault.BuiltFault.{BuiltFault}
use Rattle.guppy_built.specs.declared.fault.BuiltFault.TheVariants.{LacksFeature, FeatureOff}
use Rattle.guppy_process.specs.Cause.{BuildCause, Cause, library, bad_arguments, ambiguous, no_walk, unpublishable, build, bad_before, bad_input, input_failed, output_failed, no_member, unknown_feature, lacks_feature, feature_off, unresolved}
use Rattle.guppy_command.specs.Command.{BuildRequest, Command}
use Rattle.guppy_data.specs.declared.texts.error.Error.TheVariants.{PackageGraphConstructError, UnknownPackageId, UnknownFeatureId, UnknownWorkspacePath, UnknownWorkspaceName, PackageGraphInternalError, FeatureGraphInternalError, OutOfMemory}
use Rattle.guppy_program.specs.Answer.{IsFaultOn}
use Rattle.guppy_program.specs.Builds.{Places, IsBuildFault, IsChosen, IsFeatureFault, IsRequestCause, IsRequestFault}
use Rattle.guppy_print.specs.Format.{Format}

-- what holds of a value that is there holds of it
found : {A : Type 0} (o : Option A) (P : A → Type 0) → IsSomeAnd o P → (x : A) × (o ≡ Some x) × P x
found (Some x) P is = (x, refl, is)
found None P is = absurd is

module _ (places : Places) (call : List ℕ → List ℕ) (g : GraphData) (meant : List ℕ → List (List ℕ)) (request : BuildRequest) where
  module _ (choice : Choice) (chosen : IsChosen places g meant request choice) (place : ℕ) (cause : Cause) where
    -- that the word at the place means no member is told by it, unless memory is wanted
    pub other_told : IsFirstOther g.packages choice.members place → ((cause ≡ library OutOfMemory) ⊎ IsSomeAnd (slice_get request.members place) (λ word. cause ≡ build (no_member word)))
        → IsRequestCause places call g meant request cause
    other_told first told = ⊎_elim
        (λ (wanted : cause ≡ library OutOfMemory). subst (IsRequestCause places call g meant request) (sym wanted) tt)
        (λ (at : IsSomeAnd (slice_get request.members place) (λ word. cause ≡ build (no_member word))).
        let word = found (slice_get request.members place) (λ word. cause ≡ build (no_member word)) at in
        subst (IsRequestCause places call g meant request) (sym word.2) (record { choice = choice; chosen = chosen; place = place; is = word.1; first = first }))
        told

    -- and that the feature at the place is refused by its text
    pub refused_told : IsRefused g choice place → ((cause ≡ library OutOfMemory) ⊎ IsSomeAnd (slice_get request.features place) (λ text. cause ≡ build (unknown_feature text)))
        → IsRequestCause places call g meant request cause
    refused_told refused told = ⊎_elim
        (λ (wanted : cause ≡ library OutOfMemory). subst (IsRequestCause places call g meant request) (sym wanted) tt)
        (λ (at : IsSomeAnd (slice_get request.features place) (λ text. cause ≡ build (unknown_feature text))).
        let text = found (slice_get request.features place) (λ text. cause ≡ build (unknown_feature text)) at in
        subst (IsRequestCause places call g meant request) (sym text.2) (record { choice = choice; chosen = chosen; place = place; is = text.1; refused = refused }))
        told

  -- it is told of a feature, too
  pub feature_told : (word name : List ℕ) (why : BuildCause) → IsRequestFault places call g meant request why → IsFeatureFault places call g meant request word name why
  feature_told word name (no_member other) is = is
  feature_told word name (unknown_feature text) is = is
  feature_told word name (lacks_feature owner feature) is = absurd is
  feature_told word name (feature_off owner feature) is = absurd is
  feature_told word name (unresolved owner dependency) is = is

-- what isn't told of the feature alone is why nothing is told by the choice
pub built_told : (g : GraphData) (choice : Choice) (id name : List ℕ) (fault : BuiltFault) → (fault ≡ LacksFeature → ⊥) → (fault ≡ FeatureOff → ⊥)
    → IsWhyFault g choice id name fault → IsBuiltFault g choice fault
built_told g choice id name LacksFeature lacks off is = absurd (lacks refl)
built_told g choice id name FeatureOff lacks off is = absurd (off refl)
built_told g choice id name fault lacks off is = is

-- why nothing is told by the request is told of a command that asks it
pub request_told : {Fault : Type 0} (format : Format Fault) (places : Places) (call : List ℕ → List ℕ) (g : GraphData) (request : BuildRequest) (command : Command)
    → ((why : BuildCause) → IsRequestFault places call g (format.meant g.packages) request why → IsBuildFault places call (format.meant g.packages) command g why)
    → (fault : Fault) (cause : Cause) → IsRequestCause places call g (format.meant g.packages) request cause → IsFaultOn format places call command g fault cause
request_told format places call g request command asks fault (library (PackageGraphConstructError f)) is = absurd is
request_told format places call g request command asks fault (library (UnknownPackageId id)) is = absurd is
request_told format places call g request command asks fault (library (UnknownFeatureId id feature)) is = absurd is
request_told format places call g request command asks fault (library (UnknownWorkspacePath path)) is = absurd is
request_told format places call g request command asks fault (library (UnknownWorkspaceName name)) is = absurd is
request_told format places call g request command asks fault (library (PackageGraphInternalError f)) is = absurd is
request_told format places call g request command asks fault (library (FeatureGraphInternalError text)) is = absurd is
request_told format places call g request command asks fault (library OutOfMemory) is = tt
request_told format places call g request command asks fault bad_arguments is = absurd is
request_told format places call g request command asks fault (ambiguous given choices) is = absurd is
request_told format places call g request command asks fault (no_walk from to) is = absurd is
request_told format places call g request command asks fault (unpublishable member needed) is = absurd is
request_told format places call g request command asks fault (build why) is = asks why is
request_told format places call g request command asks fault (bad_before text) is = absurd is
request_told format places call g request command asks fault bad_input is = absurd is
request_told format places call g request command asks fault input_failed is = absurd is
request_told format places call g request command asks fault output_failed is = absurd is
