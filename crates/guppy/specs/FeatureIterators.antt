-- Which features iterators have still to give.
use Rattle.std.specs.Prelude.{ℕ, List, map}
use Rattle.std.specs.Borrow.{Bor}
use Rattle.std.specs.List.{enumerate_from}
use Rattle.std.specs.Slice.Iter.{iter_rest}
use Rattle.std.specs.String.{string_bytes}
use Rattle.guppy_data.specs.declared.texts.named_feature.NamedFeatureDep.{NamedFeatureDep}
use Rattle.guppy.specs.declared.metadata.features.FeatureIndexInPackage.{FeatureIndexInPackage}
use Rattle.guppy.specs.declared.metadata.features.NamedFeatures.{NamedFeatures}
use Rattle.guppy.specs.declared.metadata.features.NamedFeaturesFull.{NamedFeaturesFull}
use Rattle.guppy.specs.declared.metadata.features.OptionalDepsFull.{OptionalDepsFull}
use Rattle.guppy.specs.Features.{numbered_feature, numbered_dep}

abbrev pub names_left : NamedFeatures → List (List ℕ)
names_left s = map string_bytes s.rest

abbrev pub features_left : NamedFeaturesFull
    → List (FeatureIndexInPackage × List ℕ × List NamedFeatureDep)
features_left s = map numbered_feature (enumerate_from s.place s.rest)

abbrev pub deps_left : OptionalDepsFull → List (FeatureIndexInPackage × List ℕ)
deps_left s = map numbered_dep (enumerate_from s.place (iter_rest s.rest))

-- a named feature is seen as its place, its name and what it switches on
abbrev pub feature_seen : FeatureIndexInPackage × Bor (List ℕ) × Bor (List NamedFeatureDep)
    → FeatureIndexInPackage × List ℕ × List NamedFeatureDep
feature_seen f = (f.0, f.1.now, f.2.now)

-- an optional dependency is seen as its place and its name
abbrev pub dep_seen : FeatureIndexInPackage × Bor (List ℕ) → FeatureIndexInPackage × List ℕ
dep_seen d = (d.0, d.1.now)
