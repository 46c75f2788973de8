-- What follows from what, as Cargo resolves features.
use Rattle.std.specs.Prelude.{◌≡◌, ◌⊎◌, codes, ℕ, ◌<◌, Bool, true, ◌&&◌, IsTrue, Some, List, [], ◌∷◌, length, slice_get, Contains}
use Rattle.std.specs.Option.{option_map_or}
use Rattle.std.specs.String.{string_bytes}
use Rattle.std.specs.declared.string.String.{String}
use Rattle.std.specs.declared.vec.Vec.{Vec}
use Rattle.std.specs.declared.alloc.Global.{Global}
use Rattle.guppy_data.specs.Platform.{recorded_status}
use Rattle.guppy_data.specs.declared.platform.status.PlatformStatusImpl.{PlatformStatusImpl}
use Rattle.guppy_data.specs.declared.records.PackageRecord.{PackageRecord}
use Rattle.guppy_data.specs.declared.texts.named_feature.NamedFeatureDep.{NamedFeatureDep}
use Rattle.guppy_features.specs.declared.fact.BuildPlatform.{BuildPlatform}
use Rattle.guppy_features.specs.declared.fact.BuildPlatform.TheVariants.{Target, Host}
use Rattle.guppy_features.specs.declared.fact.Fact.{Fact}
use Rattle.guppy_features.specs.declared.options.Initial.{Initial}
use Rattle.guppy_features.specs.declared.options.StandardFeatures.TheVariants.{Default, All as AllFeatures}
use Rattle.guppy_features.specs.Facts.{part, feature, feature_fact}
use Rattle.guppy_features.specs.Dependencies.{DependencyData, dependencies}
use Rattle.guppy_features.specs.Questions.{Question, splits, is_macro, is_on, side_of}
use Rattle.guppy_features.specs.Needs.{feature_there, IsUse}
use Rattle.guppy_features.specs.Values.{Gives}

-- how many features the package has
abbrev pub feature_count : Question → ℕ → ℕ
feature_count q p = option_map_or (λ r. length r.named_features.entries) (slice_get q.graph.packages p) 0

-- what is chosen is on the target's side; a procedural macro on the host's, too, where the sides are apart
abbrev pub is_root_side : Question → ℕ → BuildPlatform → Bool
is_root_side q p Target = true
is_root_side q p Host = splits q && is_macro q p

-- the package is chosen, and on this side
abbrev pub IsRoot : Question → Initial → BuildPlatform → Type 0
IsRoot q i s = Contains q.options.initials.items i × IsTrue (is_root_side q i.position s)

-- the value is one of the package's feature of the place
abbrev pub HasValue : Question → ℕ → ℕ → NamedFeatureDep → Type 0
HasValue q p n value = (r : PackageRecord) × (e : String Global × Vec NamedFeatureDep Global)
    × (slice_get q.graph.packages p ≡ Some r) × (slice_get r.named_features.entries n ≡ Some e)
    × Contains e.1.items value

-- the dependency is one of a package of the graph
abbrev pub IsDependency : Question → DependencyData → Type 0
IsDependency q d = (p : ℕ) × (p < length q.graph.packages) × Contains (dependencies q.graph p) d

-- the dependency asks for the feature on the side: by default, or by its name
abbrev pub AsksFor : Question → BuildPlatform → DependencyData → Fact → Type 0
AsksFor q s d f =
    (IsTrue (is_on q s d.section (recorded_status d.part.default_features_if))
    × (feature_there q s (codes "default") d ≡ Some f))
    ⊎ ((e : String Global × PlatformStatusImpl) × Contains d.part.feature_targets.entries e
    × IsTrue (is_on q s d.section (recorded_status e.1)) × (feature_there q s (string_bytes e.0) d ≡ Some f))

-- where all of the body holds, so does the head
pub data FollowsFor (q : Question) : List Fact → Fact → Type 0 where
  -- a chosen package takes part
  chosen : (i : Initial) (s : BuildPlatform) → IsRoot q i s → FollowsFor q [] (part i.position s)
  -- its default features are on, or all of them, if so it is asked
  default_features : (i : Initial) (s : BuildPlatform) {f : Fact} → IsRoot q i s → i.standard ≡ Default
      → feature_fact q.graph.packages i.position s (codes "default") ≡ Some f → FollowsFor q [] f
  all_features : (i : Initial) (s : BuildPlatform) (n : ℕ) → IsRoot q i s → i.standard ≡ AllFeatures
      → n < feature_count q i.position → FollowsFor q [] (feature i.position s n)
  -- and what it is asked for by name gives what a value gives
  asked : (i : Initial) (s : BuildPlatform) (value : NamedFeatureDep) {gate : List Fact} {f : Fact} → IsRoot q i s
      → Contains i.features.items value → Gives q i.position s value gate f → FollowsFor q gate f
  -- so does each value of a feature that is on
  switches : (p : ℕ) (s : BuildPlatform) (n : ℕ) (value : NamedFeatureDep) {gate : List Fact} {f : Fact}
      → HasValue q p n value → Gives q p s value gate f → FollowsFor q (feature p s n ∷ gate) f
  -- a dependency that is used, and on there, needs its package
  needs : (d : DependencyData) (s : BuildPlatform) (used : Fact) → IsDependency q d → IsUse q s d used
      → IsTrue (is_on q s d.section (recorded_status d.part.build_if))
      → FollowsFor q (used ∷ []) (part d.to (side_of q s d))
  -- and the features that it asks for
  needs_feature : (d : DependencyData) (s : BuildPlatform) (used : Fact) {f : Fact} → IsDependency q d
      → IsUse q s d used → AsksFor q s d f → FollowsFor q (used ∷ []) f
