-- What is asked of the chosen packages, and what the packages' features and dependencies add to it.
use Rattle.std.specs.Prelude.{codes, ℕ, IsTrue, Some, None, List}
use Rattle.guppy_features.specs.declared.fact.BuildPlatform.{BuildPlatform}
use Rattle.guppy_features.specs.declared.fact.BuildPlatform.TheVariants.{Target, Host}
use Rattle.guppy_features.specs.declared.fact.Fact.{Fact}
use Rattle.guppy_features.specs.declared.options.Initial.{Initial}
use Rattle.guppy_features.specs.declared.options.StandardFeatures.{StandardFeatures}
use Rattle.guppy_features.specs.declared.options.StandardFeatures.TheVariants.{None as NoFeatures, Default, All as AllFeatures}
use Rattle.guppy_data.specs.declared.texts.named_feature.NamedFeatureDep.{NamedFeatureDep}
use Rattle.guppy_features.specs.Facts.{part, feature, feature_fact}
use Rattle.guppy_features.specs.Dependencies.{dependencies}
use Rattle.guppy_features.specs.Questions.{Question}
use Rattle.guppy_features.specs.Needs.{Needs}
use Rattle.guppy_features.specs.Values.{Always, Gives}
use Rattle.guppy_features.specs.Follows.{feature_count, is_root_side, HasValue}
use Rattle.guppy_features.specs.Adding.{Either, If, Behind, OfSome, OfBelow}

-- all features of the package
abbrev pub HasAll : Question → ℕ → BuildPlatform → List Fact → Fact → Type 0
HasAll q p s = OfBelow (feature_count q p) (λ n. Always (Some (feature p s n)))

-- the standard features
abbrev pub HasStandard : Question → ℕ → BuildPlatform → StandardFeatures → List Fact → Fact → Type 0
HasStandard q p s NoFeatures body f = ⊥
HasStandard q p s Default body f = Always (feature_fact q.graph.packages p s (codes "default")) body f
HasStandard q p s AllFeatures body f = HasAll q p s body f

-- on the side the chosen package takes part, with these and with what is named
abbrev pub HasRootsOn : Question → BuildPlatform → Initial → List Fact → Fact → Type 0
HasRootsOn q s i = Either (Always (Some (part i.position s))) (Either (HasStandard q i.position s i.standard)
    (OfSome i.features.items (λ value. Behind None (Gives q i.position s value))))

-- on each side on which it is
abbrev pub HasRoots : Question → Initial → List Fact → Fact → Type 0
HasRoots q i = Either (HasRootsOn q Target i)
    (If (IsTrue (is_root_side q i.position Host)) (HasRootsOn q Host i))

-- what the values of the package's feature of the place switch on where it is on
abbrev pub SwitchesAt : Question → ℕ → BuildPlatform → ℕ → List Fact → Fact → Type 0
SwitchesAt q p s n body f = (value : NamedFeatureDep) × HasValue q p n value
    × Behind (Some (feature p s n)) (Gives q p s value) body f

-- what its features switch on
abbrev pub Switches : Question → ℕ → BuildPlatform → List Fact → Fact → Type 0
Switches q p s = OfBelow (feature_count q p) (SwitchesAt q p s)

-- what its dependencies need, and what its features switch on
abbrev pub FollowsOn : Question → ℕ → BuildPlatform → List Fact → Fact → Type 0
FollowsOn q p s = Either (OfSome (dependencies q.graph p) (Needs q s)) (Switches q p s)

abbrev pub FollowsOf : Question → ℕ → List Fact → Fact → Type 0
FollowsOf q p = Either (FollowsOn q p Target) (FollowsOn q p Host)
