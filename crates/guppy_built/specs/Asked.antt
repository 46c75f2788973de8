-- What a command line's choice means to Cargo.
use Rattle.std.specs.Prelude.{◌≡◌, ⊤, ℕ, Bool, List, [], ◌∷◌, map, Option, Ok}
use Rattle.std.specs.List.{AllZip}
use Rattle.guppy_data.specs.NamedFeature.{IsFeature}
use Rattle.guppy_data.specs.declared.platform.spec.PlatformSpec.{PlatformSpec}
use Rattle.guppy_data.specs.declared.texts.named_feature.NamedFeatureDep.{NamedFeatureDep}
use Rattle.guppy_graph.specs.Graph.{GraphData}
use Rattle.guppy_graph.specs.Ids.{HasId}
use Rattle.guppy_graph.specs.Members.{AreMembersByPath}
use Rattle.guppy_target.specs.Platform.{PlatformData}
use Rattle.guppy_features.specs.Chosen.{IsRootFor, IsAnswer, IsFirstRefused, chosen, seen_value}
use Rattle.guppy_features.specs.declared.chosen.ChosenFault.{ChosenFault}
use Rattle.guppy_features.specs.declared.chosen.ChosenFault.TheVariants.{UnknownFeature as NotTaken, OutOfMemory as WantOfMemory}
use Rattle.guppy_features.specs.declared.options.CargoOptions.{CargoOptions}
use Rattle.guppy_features.specs.declared.options.CargoResolverVersion.{CargoResolverVersion}
use Rattle.guppy_features.specs.declared.options.StandardFeatures.{StandardFeatures}
use Rattle.guppy_built.specs.declared.fault.BuiltFault.{BuiltFault}
use Rattle.guppy_built.specs.declared.fault.BuiltFault.TheVariants.{UnknownFeature, OutOfMemory}
use Rattle.guppy_built.specs.declared.question.BuildQuestion.{BuildQuestion}

-- the chosen members by their IDs, the texts of features that are asked for and which ones beside these, whether tests
-- are built, the resolver, the platforms that are built for and the one that builds
pub record Choice : Type 0 where
  pub members : List (List ℕ)
  pub features : List (List ℕ)
  pub standard : StandardFeatures
  pub tests : Bool
  pub resolver : CargoResolverVersion
  pub target : PlatformSpec PlatformData
  pub host : PlatformSpec PlatformData

abbrev pub choice_of : BuildQuestion → Choice
choice_of b = record {
  members = b.members.now;
  features = map (λ text. text.now) b.features.now;
  standard = b.standard;
  tests = b.tests;
  resolver = b.resolver;
  target = b.target_platform.now;
  host = b.host_platform.now;
}

-- the positions are those of the members that Cargo takes where none is named: of the default members that the
-- workspace tells, or where it tells none of all members
abbrev pub AreDefault : GraphData → List (List ℕ) → List ℕ → Type 0
AreDefault g [] positions = AreMembersByPath g.packages positions
AreDefault g (id ∷ ids) positions = AllZip (HasId g.packages) (id ∷ ids) positions

-- the positions are those of the members with these IDs, or where there is none of those that Cargo takes
abbrev pub AreChosen : GraphData → List (List ℕ) → List ℕ → Type 0
AreChosen g [] positions = AreDefault g g.workspace.default_members.items positions
AreChosen g (id ∷ ids) positions = AllZip (HasId g.packages) (id ∷ ids) positions

-- the choice is of these members, and asks for these values, with this package at the root
pub record IsChoice (g : GraphData) (c : Choice) (members : List ℕ) (root : Option ℕ) (values : List NamedFeatureDep) : Type 0 where
  pub members_are : AreChosen g c.members members
  pub root_is : IsRootFor g c.resolver root
  pub values_are : AllZip IsFeature c.features values

-- what Cargo is asked by the choice, of these members
pub record IsAsked (g : GraphData) (c : Choice) (options : CargoOptions) (members : List ℕ) : Type 0 where
  pub root : Option ℕ
  pub values : List NamedFeatureDep
  pub is : IsChoice g c members root values
  pub initials : IsAnswer (chosen g members root) c.standard (map seen_value values) (Ok options.initials)
  pub tests : options.tests ≡ c.tests
  pub resolver : options.resolver ≡ c.resolver
  pub target : options.target_platform.now ≡ c.target
  pub host : options.host_platform.now ≡ c.host

-- Cargo refuses the feature at the place, and none before it
pub record IsRefused (g : GraphData) (c : Choice) (place : ℕ) : Type 0 where
  pub members : List ℕ
  pub root : Option ℕ
  pub values : List NamedFeatureDep
  pub is : IsChoice g c members root values
  pub refused : IsFirstRefused (chosen g members root) (map seen_value values) place

-- why nothing is asked of Cargo by the choice
abbrev pub IsChoiceFault : GraphData → Choice → BuiltFault → Type 0
IsChoiceFault g c (UnknownFeature place) = IsRefused g c place
IsChoiceFault g c OutOfMemory = ⊤
IsChoiceFault g c _ = ⊥

abbrev pub of_chosen : ChosenFault → BuiltFault
of_chosen (NotTaken place) = UnknownFeature place
of_chosen WantOfMemory = OutOfMemory
