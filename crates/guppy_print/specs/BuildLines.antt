-- What Cargo builds, and why a feature is on, in lines.
use Rattle.std.specs.Prelude.{ℕ, List, [], ◌∷◌, ◌++◌, map, codes}
use Rattle.std.specs.List.{flat_map}
use Rattle.guppy_command.specs.Printed.{joined}
use Rattle.guppy_features.specs.declared.fact.BuildPlatform.{BuildPlatform}
use Rattle.guppy_features.specs.declared.fact.BuildPlatform.TheVariants.{Target, Host}
use Rattle.guppy_built.specs.Features.{FeatureData}
use Rattle.guppy_built.specs.Names.{NamedFactData, Said, StepData, takes_part, switched_on, feature_on}
use Rattle.guppy_built.specs.Rows.{Row}

-- what is built: what the package is called, the platform, and the features
abbrev pub row_text : (List ℕ → List ℕ) → Row → List ℕ
row_text text row = joined (text row.id ∷ row.platform ∷ row.features)

abbrev pub side_text : BuildPlatform → List ℕ
side_text Target = codes "target"
side_text Host = codes "host"

-- a feature, the side on which it is on, and what the packages are called that ask for it
abbrev pub feature_text : (List ℕ → List ℕ) → FeatureData → List ℕ
feature_text text on = joined (on.name ∷ side_text on.side ∷ map text on.askers)

-- what is said of the package: nothing where it takes part, `dep:x`, or a feature
abbrev pub said_text : Said → List ℕ
said_text takes_part = []
said_text (switched_on name) = codes " dep:" ++ name
said_text (feature_on name) = codes " " ++ name

-- what the package is called, the side, and what is said of it
abbrev pub fact_text : (List ℕ → List ℕ) → NamedFactData → List ℕ
fact_text text f = text f.id ++ (codes " " ++ (side_text f.side ++ said_text f.said))

-- for which facts
abbrev pub grounds_text : (List ℕ → List ℕ) → List NamedFactData → List ℕ
grounds_text text [] = []
grounds_text text (f ∷ fs) = codes " for " ++ (fact_text text f ++ flat_map (λ g. codes " and " ++ fact_text text g) fs)

-- a fact, and for which others it holds
abbrev pub step_text : (List ℕ → List ℕ) → StepData → List ℕ
step_text text step = fact_text text step.fact ++ grounds_text text step.grounds
