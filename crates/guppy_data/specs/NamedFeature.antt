-- What the text of a feature switches on.
use Rattle.std.specs.Prelude.{ℕ, Bool, true, false, List, ◌++◌, ◌≡◌, ◌≢◌, codes}
use Rattle.std.specs.String.{string_bytes}
use Rattle.guppy_data.specs.ExternalSource.{Lacks, IsCutAt}
use Rattle.guppy_data.specs.declared.texts.named_feature.NamedFeatureDep.{NamedFeatureDep}
use Rattle.guppy_data.specs.declared.texts.named_feature.NamedFeatureDep.TheVariants.{NamedFeature, OptionalDependency, DependencyNamedFeature}

-- the text names this dependency, as a weak one where a `?` stands behind the name
abbrev pub NamesDependency : List ℕ → List ℕ → Bool → Type 0
NamesDependency text name true = text ≡ name ++ codes "?"
NamesDependency text name false = (text ≡ name) × ((front : List ℕ) → text ≢ front ++ codes "?")

-- the text switches this on: a feature of the dependency before its first slash; without a slash, the
-- optional dependency behind `dep:`, and else another named feature
abbrev pub IsFeature : List ℕ → NamedFeatureDep → Type 0
IsFeature text (DependencyNamedFeature name feature weak) = (dependency : List ℕ)
    × IsCutAt (codes "/") text dependency (string_bytes feature)
    × NamesDependency dependency (string_bytes name) weak
IsFeature text (OptionalDependency name) =
    Lacks (codes "/") text × (text ≡ codes "dep:" ++ string_bytes name)
IsFeature text (NamedFeature name) = Lacks (codes "/") text
    × ((rest : List ℕ) → text ≢ codes "dep:" ++ rest) × (text ≡ string_bytes name)
