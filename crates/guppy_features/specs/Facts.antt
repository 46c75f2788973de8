-- What may hold of a package.
use Rattle.std.specs.Prelude.{ℕ, Option, List, slice_get, option_map}
use Rattle.std.specs.Option.{option_and_then}
use Rattle.std.specs.Str.{bytes_eq}
use Rattle.std.specs.String.{string_bytes}
use Rattle.indexmap.specs.IndexMap.{index_of_by}
use Rattle.indexmap.specs.IndexSet.{index_of_by as place_in_set}
use Rattle.guppy_data.specs.declared.records.PackageRecord.{PackageRecord}
use Rattle.guppy_features.specs.declared.fact.BuildPlatform.{BuildPlatform}
use Rattle.guppy_features.specs.declared.fact.FactKind.TheVariants.{Part, Switched, Feature}
use Rattle.guppy_features.specs.declared.fact.Fact.{Fact}

-- the package takes part on the side
abbrev pub part : ℕ → BuildPlatform → Fact
part p s = record { position = p; side = s; kind = Part; place = 0 }

-- there, its optional dependency of the place is switched on
abbrev pub switched : ℕ → BuildPlatform → ℕ → Fact
switched p s i = record { position = p; side = s; kind = Switched; place = i }

-- there, its feature of the place is on
abbrev pub feature : ℕ → BuildPlatform → ℕ → Fact
feature p s i = record { position = p; side = s; kind = Feature; place = i }

-- the place of the feature of this name
abbrev pub feature_place : PackageRecord → List ℕ → Option ℕ
feature_place r name = index_of_by (λ key. bytes_eq name (string_bytes key)) r.named_features

-- the place of the optional dependency of this name
abbrev pub optional_place : PackageRecord → List ℕ → Option ℕ
optional_place r name = place_in_set (λ key. bytes_eq name (string_bytes key)) r.optional_deps

-- that the package's feature of the name is on, if it has one
abbrev pub feature_fact : List PackageRecord → ℕ → BuildPlatform → List ℕ → Option Fact
feature_fact packages p s name =
    option_and_then (λ r. option_map (feature p s) (feature_place r name)) (slice_get packages p)

-- that its optional dependency of the name is switched on, if it has one
abbrev pub switched_fact : List PackageRecord → ℕ → BuildPlatform → List ℕ → Option Fact
switched_fact packages p s name =
    option_and_then (λ r. option_map (switched p s) (optional_place r name)) (slice_get packages p)
