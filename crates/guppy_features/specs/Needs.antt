-- What a dependency that is used needs.
use Rattle.std.specs.Prelude.{◌≡◌, codes, ℕ, IsTrue, Option, Some, None, List}
use Rattle.std.specs.String.{string_bytes}
use Rattle.guppy_data.specs.Platform.{Status, recorded_status}
use Rattle.guppy_features.specs.declared.fact.BuildPlatform.{BuildPlatform}
use Rattle.guppy_features.specs.declared.fact.Fact.{Fact}
use Rattle.guppy_features.specs.Facts.{part, feature_fact}
use Rattle.guppy_features.specs.Dependencies.{DependencyData}
use Rattle.guppy_features.specs.Questions.{Question, is_on, may_ask, side_of, use_of}
use Rattle.guppy_features.specs.Adding.{Where, Either, If, OfSome}

-- that a feature of the dependency's package is on, if it has one of this name
abbrev pub feature_there : Question → BuildPlatform → List ℕ → DependencyData → Option Fact
feature_there q s name d = feature_fact q.graph.packages d.to (side_of q s d) name

-- where the dependency is used, the head, if what has the status is on
abbrev pub IfOn : Question → BuildPlatform → DependencyData → Fact → Status → Option Fact → List Fact → Fact → Type 0
IfOn q s d used status head = If (IsTrue (is_on q s d.section status)) (Where (Some used) None head)

-- the features that it names
abbrev pub NeedsNamed : Question → BuildPlatform → DependencyData → Fact → List Fact → Fact → Type 0
NeedsNamed q s d used = OfSome d.part.feature_targets.entries
    (λ e. IfOn q s d used (recorded_status e.1) (feature_there q s (string_bytes e.0) d))

-- that its package takes part, its default features, and those that it names, each where it is asked for
abbrev pub NeedsWhere : Question → BuildPlatform → DependencyData → Fact → List Fact → Fact → Type 0
NeedsWhere q s d used = Either
    (IfOn q s d used (recorded_status d.part.build_if) (Some (part d.to (side_of q s d))))
    (Either (IfOn q s d used (recorded_status d.part.default_features_if) (feature_there q s (codes "default") d))
    (NeedsNamed q s d used))

-- this fact holds exactly where the dependency is used on the side
abbrev pub IsUse : Question → BuildPlatform → DependencyData → Fact → Type 0
IsUse q s d used = IsTrue (may_ask q d.from d.section) × (use_of q s d ≡ Some used)

-- what it needs where it is used
abbrev pub Needs : Question → BuildPlatform → DependencyData → List Fact → Fact → Type 0
Needs q s d body f = (used : Fact) × IsUse q s d used × NeedsWhere q s d used body f
