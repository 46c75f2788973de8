-- What the values of features switch on.
use Rattle.std.specs.Prelude.{◌≡◌, ℕ, Bool, true, false, ◌&&◌, not, IsTrue, Option, Some, None, List}
use Rattle.std.specs.Str.{bytes_eq}
use Rattle.std.specs.String.{string_bytes}
use Rattle.guppy_data.specs.declared.texts.named_feature.NamedFeatureDep.{NamedFeatureDep}
use Rattle.guppy_data.specs.declared.texts.named_feature.NamedFeatureDep.TheVariants.{NamedFeature, OptionalDependency, DependencyNamedFeature}
use Rattle.guppy_features.specs.declared.fact.BuildPlatform.{BuildPlatform}
use Rattle.guppy_features.specs.declared.fact.Fact.{Fact}
use Rattle.guppy_features.specs.Facts.{feature_fact, switched_fact}
use Rattle.guppy_features.specs.Dependencies.{DependencyData, dependencies}
use Rattle.guppy_features.specs.Questions.{Question, counts, use_of}
use Rattle.guppy_features.specs.Resolved.{is_resolved}
use Rattle.guppy_features.specs.Needs.{feature_there}
use Rattle.guppy_features.specs.Adding.{Where, Either, If, OfSome}

-- always the head, if there is one
abbrev pub Always : Option Fact → List Fact → Fact → Type 0
Always head = Where None None head

-- `x?/F`: the feature, where the dependency is used
abbrev pub GivesWeakly : Question → BuildPlatform → List ℕ → DependencyData → List Fact → Fact → Type 0
GivesWeakly q s name d gate f = (used : Fact) × (use_of q s d ≡ Some used)
    × Where None (Some used) (feature_there q s name d) gate f

-- `x/F`: the feature and, of an optional dependency, that it is switched on, with the feature of its name
abbrev pub GivesStrongly : Question → BuildPlatform → List ℕ → DependencyData → List Fact → Fact → Type 0
GivesStrongly q s name d = Either (Always (feature_there q s name d)) (If (IsTrue d.is_optional)
    (Either (Always (use_of q s d)) (Always (feature_fact q.graph.packages d.from s d.name))))

abbrev pub GivesEither : Question → BuildPlatform → List ℕ → Bool → DependencyData → List Fact → Fact → Type 0
GivesEither q s name true = GivesWeakly q s name
GivesEither q s name false = GivesStrongly q s name

-- either, if the dependency is called x and counts
abbrev pub GivesThrough : Question → BuildPlatform → List ℕ → List ℕ → Bool → DependencyData → List Fact → Fact → Type 0
GivesThrough q s x name weak d =
    If (IsTrue (bytes_eq d.name x) × IsTrue (counts q s d)) (GivesEither q s name weak d)

-- `x/F`, of an optional dependency that isn't resolved: that it is switched on
abbrev pub GivesUnresolved : Question → ℕ → BuildPlatform → List ℕ → Bool → List Fact → Fact → Type 0
GivesUnresolved q p s x weak = If (IsTrue (not weak && not (is_resolved q.graph p x)))
    (Always (switched_fact q.graph.packages p s x))

-- what the value of the package switches on on the side, behind a gate of facts
abbrev pub Gives : Question → ℕ → BuildPlatform → NamedFeatureDep → List Fact → Fact → Type 0
Gives q p s (NamedFeature name) = Always (feature_fact q.graph.packages p s (string_bytes name))
Gives q p s (OptionalDependency x) = Always (switched_fact q.graph.packages p s (string_bytes x))
Gives q p s (DependencyNamedFeature x name weak) = Either
    (OfSome (dependencies q.graph p) (GivesThrough q s (string_bytes x) (string_bytes name) weak))
    (GivesUnresolved q p s (string_bytes x) weak)
