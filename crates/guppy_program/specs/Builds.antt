-- What is answered of what Cargo builds.
use Rattle.std.specs.Prelude.{◌≡◌, ℕ, List, Some, slice_get, All}
use Rattle.std.specs.List.{AllZip}
use Rattle.guppy_data.specs.Platform.{Question, question_of}
use Rattle.guppy_data.specs.declared.texts.error.Error.TheVariants.{OutOfMemory}
use Rattle.guppy_target.specs.Platform.{PlatformData}
use Rattle.guppy_graph.specs.Graph.{GraphData}
use Rattle.guppy_graph.specs.Ids.{IsKnown}
use Rattle.guppy_process.specs.Cause.{BuildCause, Cause, library, build, no_member, unknown_feature, lacks_feature, feature_off, unresolved}
use Rattle.guppy_command.specs.Asked.{Asked}
use Rattle.guppy_command.specs.Command.{BuildRequest, Command, built, features, why_feature}
use Rattle.guppy_built.specs.Asked.{Choice, IsRefused}
use Rattle.guppy_built.specs.Refused.{IsFirstOther, IsLackingFor}
use Rattle.guppy_built.specs.Why.{IsLacking, IsOff}
use Rattle.guppy_program.specs.Meant.{Means}

-- the platforms that are built for, and the one that builds
pub record Places : Type 0 where
  pub target : Question PlatformData
  pub host : Question PlatformData

-- those that are asked about
abbrev pub places_of : Asked → Places
places_of asked = record { target = asked.question; host = asked.host }

-- the choice is the one that is asked for: its members are those that the words mean
pub record IsChosen (places : Places) (g : GraphData) (meant : List ℕ → List (List ℕ)) (request : BuildRequest)
    (c : Choice) : Type 0 where
  pub named : AllZip (Means meant) request.members c.members
  pub known : All (IsKnown g.packages) c.members
  pub features : c.features ≡ request.features
  pub standard : c.standard ≡ request.standard
  pub tests : c.tests ≡ request.tests
  pub resolver : c.resolver ≡ request.resolver
  pub target : question_of c.target ≡ places.target
  pub host : question_of c.host ≡ places.host

-- of its words for members this one is the first that means another package
pub record IsNoMemberWord (places : Places) (g : GraphData) (meant : List ℕ → List (List ℕ)) (request : BuildRequest)
    (word : List ℕ) : Type 0 where
  pub choice : Choice
  pub chosen : IsChosen places g meant request choice
  pub place : ℕ
  pub is : slice_get request.members place ≡ Some word
  pub first : IsFirstOther g.packages choice.members place

-- of its features Cargo refuses this one, and none before it
pub record IsRefusedText (places : Places) (g : GraphData) (meant : List ℕ → List (List ℕ)) (request : BuildRequest)
    (text : List ℕ) : Type 0 where
  pub choice : Choice
  pub chosen : IsChosen places g meant request choice
  pub place : ℕ
  pub is : slice_get request.features place ≡ Some text
  pub refused : IsRefused g choice place

-- by it, the optional dependency of this name, of the package that `call` calls so, is the first that is switched on and
-- isn't resolved
pub record IsUnresolvedTold (places : Places) (call : List ℕ → List ℕ) (g : GraphData) (meant : List ℕ → List (List ℕ))
    (request : BuildRequest) (owner dependency : List ℕ) : Type 0 where
  pub choice : Choice
  pub chosen : IsChosen places g meant request choice
  pub id : List ℕ
  pub lacking : IsLackingFor g choice id dependency
  pub told : owner ≡ call id

-- the package that the word means has no feature of the name
pub record IsWithoutFeature (g : GraphData) (meant : List ℕ → List (List ℕ)) (word name : List ℕ) : Type 0 where
  pub id : List ℕ
  pub is_meant : Means meant word id
  pub lacks : IsLacking g id name

-- its feature of the name is on nowhere
pub record IsFeatureOff (places : Places) (g : GraphData) (meant : List ℕ → List (List ℕ)) (request : BuildRequest)
    (word name : List ℕ) : Type 0 where
  pub choice : Choice
  pub chosen : IsChosen places g meant request choice
  pub id : List ℕ
  pub is_meant : Means meant word id
  pub off : IsOff g choice id name

-- why nothing is told of what is built by the request
abbrev pub IsRequestFault : Places → (List ℕ → List ℕ) → GraphData → (List ℕ → List (List ℕ)) → BuildRequest → BuildCause → Type 0
IsRequestFault places call g meant request (no_member word) = IsNoMemberWord places g meant request word
IsRequestFault places call g meant request (unknown_feature text) = IsRefusedText places g meant request text
IsRequestFault places call g meant request (unresolved owner dependency) =
    IsUnresolvedTold places call g meant request owner dependency
IsRequestFault places call g meant request _ = ⊥

-- the cause tells why, or memory ran out
abbrev pub IsRequestCause : Places → (List ℕ → List ℕ) → GraphData → (List ℕ → List (List ℕ)) → BuildRequest → Cause → Type 0
IsRequestCause places call g meant request (build cause) = IsRequestFault places call g meant request cause
IsRequestCause places call g meant request (library OutOfMemory) = Unit {0}
IsRequestCause places call g meant request _ = ⊥

-- why nothing is told of the feature of the package that the word means
abbrev pub IsFeatureFault : Places → (List ℕ → List ℕ) → GraphData → (List ℕ → List (List ℕ)) → BuildRequest → List ℕ → List ℕ → BuildCause → Type 0
IsFeatureFault places call g meant request word name (lacks_feature owner feature) =
    (owner ≡ word) × (feature ≡ name) × IsWithoutFeature g meant word name
IsFeatureFault places call g meant request word name (feature_off owner feature) =
    (owner ≡ word) × (feature ≡ name) × IsFeatureOff places g meant request word name
IsFeatureFault places call g meant request word name cause = IsRequestFault places call g meant request cause

-- the command asks what Cargo builds, and there is no answer for this cause
abbrev pub IsBuildFault : Places → (List ℕ → List ℕ) → (List ℕ → List (List ℕ)) → Command → GraphData → BuildCause → Type 0
IsBuildFault places call meant (built request) g cause = IsRequestFault places call g meant request cause
IsBuildFault places call meant (features request word) g cause = IsRequestFault places call g meant request cause
IsBuildFault places call meant (why_feature request word name) g cause =
    IsFeatureFault places call g meant request word name cause
IsBuildFault places call meant _ g cause = ⊥
