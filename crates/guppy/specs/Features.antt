-- The features of a package.
use Rattle.std.specs.Prelude.{ℕ, List, map}
use Rattle.std.specs.List.{Contains}
use Rattle.std.specs.String.{string_bytes}
use Rattle.std.specs.declared.string.String.{String}
use Rattle.std.specs.declared.vec.Vec.{Vec}
use Rattle.std.specs.declared.alloc.Global.{Global}
use Rattle.indexmap.specs.IndexMap.{keys}
use Rattle.guppy_data.specs.declared.records.PackageRecord.{PackageRecord}
use Rattle.guppy_data.specs.declared.texts.named_feature.NamedFeatureDep.{NamedFeatureDep}
use Rattle.guppy.specs.declared.metadata.features.FeatureIndexInPackage.{FeatureIndexInPackage}
use Rattle.guppy.specs.declared.metadata.features.FeatureIndexInPackage.TheVariants.{OptionalDependency, Named}

-- the package has a named feature of this name
abbrev pub HasFeature : PackageRecord → List ℕ → Type 0
HasFeature r name = Contains (map string_bytes (keys r.named_features)) name

-- a named feature with its place, its name and what it switches on
abbrev pub numbered_feature : ℕ × (String Global × Vec NamedFeatureDep Global)
    → FeatureIndexInPackage × List ℕ × List NamedFeatureDep
numbered_feature f = (Named f.0, string_bytes f.1.0, f.1.1.items)

-- an optional dependency with its place and its name
abbrev pub numbered_dep : ℕ × String Global → FeatureIndexInPackage × List ℕ
numbered_dep d = (OptionalDependency d.0, string_bytes d.1)
