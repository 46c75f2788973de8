-- Why a feature is on.
use Rattle.std.specs.Prelude.{◌≡◌, ℕ, List, Some, None, slice_get, All, IsSomeAnd}
use Rattle.std.specs.List.{filter_map}
use Rattle.guppy_graph.specs.Graph.{GraphData}
use Rattle.guppy_graph.specs.Ids.{HasId}
use Rattle.guppy_features.specs.Facts.{feature_fact, feature_place}
use Rattle.guppy_features.specs.Follows.{FollowsFor}
use Rattle.guppy_features.specs.Questions.{Question, question}
use Rattle.guppy_features.specs.Reasons.{AreReasons, AreNeeded, EndsIn}
use Rattle.guppy_features.specs.Unresolved.{AreResolved}
use Rattle.guppy_features.specs.declared.fact.BuildPlatform.{BuildPlatform}
use Rattle.guppy_features.specs.declared.fact.BuildPlatform.TheVariants.{Target, Host}
use Rattle.guppy_features.specs.declared.fact.Fact.{Fact}
use Rattle.guppy_features.specs.declared.options.CargoOptions.{CargoOptions}
use Rattle.guppy_features.specs.declared.reason.Reason.{Reason}
use Rattle.guppy_built.specs.declared.fault.BuiltFault.{BuiltFault}
use Rattle.guppy_built.specs.declared.fault.BuiltFault.TheVariants.{LacksFeature, FeatureOff}
use Rattle.guppy_built.specs.Asked.{Choice, IsAsked}
use Rattle.guppy_built.specs.Names.{StepData, named_step}
use Rattle.guppy_built.specs.Refused.{IsBuiltFault, IsOfMember}
use Rattle.guppy_built.specs.Rows.{IsFeatureOn}

-- why the fact holds, in steps by names: each behind those that its own follows from, nothing that isn't needed
pub record AreStepsTo (q : Question) (f : Fact) (steps : List StepData) : Type 0 where
  pub reasons : List Reason
  pub order : AreReasons (FollowsFor q) reasons
  pub last : EndsIn reasons f
  pub needed : AreNeeded reasons f
  pub told : steps ≡ filter_map (named_step q.graph) reasons

-- why the package's feature of the name is on on the side
pub record IsWhyOn (q : Question) (p : ℕ) (s : BuildPlatform) (name : List ℕ) (steps : List StepData) : Type 0 where
  pub fact : Fact
  pub is : feature_fact q.graph.packages p s name ≡ Some fact
  pub steps_are : AreStepsTo q fact steps

-- why it is on on the target's side or, where it isn't on there, on the host's
pub data IsWhyFeature (q : Question) (p : ℕ) (name : List ℕ) (steps : List StepData) : Type 0 where
  on_target : IsWhyOn q p Target name steps → IsWhyFeature q p name steps
  on_host : ¬ IsFeatureOn q p Target name → IsWhyOn q p Host name steps → IsWhyFeature q p name steps

-- why the feature of the package with the ID is on for the choice, of which each ID is a member's, where all that is
-- switched on is resolved
pub record IsWhy (g : GraphData) (c : Choice) (id name : List ℕ) (steps : List StepData) : Type 0 where
  pub named : All (IsOfMember g.packages) c.members
  pub options : CargoOptions
  pub members : List ℕ
  pub asked : IsAsked g c options members
  pub resolved : AreResolved (question g options)
  pub position : ℕ
  pub found : HasId g.packages id position
  pub why : IsWhyFeature (question g options) position name steps

-- the package with the ID has no feature of the name
pub record IsLacking (g : GraphData) (id name : List ℕ) : Type 0 where
  pub position : ℕ
  pub found : HasId g.packages id position
  pub lacks : IsSomeAnd (slice_get g.packages position) (λ r. feature_place r name ≡ None)

-- its feature of the name is on on neither side, where all that is switched on is resolved
pub record IsOff (g : GraphData) (c : Choice) (id name : List ℕ) : Type 0 where
  pub named : All (IsOfMember g.packages) c.members
  pub options : CargoOptions
  pub members : List ℕ
  pub asked : IsAsked g c options members
  pub resolved : AreResolved (question g options)
  pub position : ℕ
  pub found : HasId g.packages id position
  pub target : ¬ IsFeatureOn (question g options) position Target name
  pub host : ¬ IsFeatureOn (question g options) position Host name

-- why nothing is told of the feature
abbrev pub IsWhyFault : GraphData → Choice → List ℕ → List ℕ → BuiltFault → Type 0
IsWhyFault g c id name LacksFeature = IsLacking g id name
IsWhyFault g c id name FeatureOff = IsOff g c id name
IsWhyFault g c id name fault = IsBuiltFault g c fault
