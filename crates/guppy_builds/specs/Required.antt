-- Whether the features are on that a target requires.
use Rattle.std.specs.Prelude.{◌≡◌, ◌⊎◌, codes, ℕ, Bool, ◌&&◌, ◌||◌, not, IsTrue, Option, Some, List, map, Contains}
use Rattle.std.specs.Str.{bytes_eq}
use Rattle.std.specs.String.{string_bytes}
use Rattle.std.specs.declared.string.String.{String}
use Rattle.std.specs.declared.alloc.Global.{Global}
use Rattle.guppy_data.specs.ExternalSource.{Lacks, IsCutAt}
use Rattle.guppy_data.specs.Platform.{recorded_status, question_of as platforms_of}
use Rattle.guppy_closure.specs.Relations.{HoldsBy}
use Rattle.guppy_features.specs.declared.fact.BuildPlatform.{BuildPlatform}
use Rattle.guppy_features.specs.declared.fact.BuildPlatform.TheVariants.{Target, Host}
use Rattle.guppy_features.specs.declared.fact.Fact.{Fact}
use Rattle.guppy_features.specs.Facts.{feature_fact}
use Rattle.guppy_features.specs.Dependencies.{DependencyData, dependencies}
use Rattle.guppy_features.specs.Questions.{Question, is_development, is_present, use_of}
use Rattle.guppy_features.specs.Needs.{feature_there}
use Rattle.guppy_features.specs.Follows.{FollowsFor}
use Rattle.guppy_builds.specs.Places.{may_be_on}

-- there is this fact, and it holds
abbrev pub IsOn : Question → Option Fact → Type 0
IsOn q fact = (f : Fact) × (fact ≡ Some f) × HoldsBy (FollowsFor q) f

-- one of them is such
abbrev pub HasOne : {X : Type 0} → List X → (X → Type 0) → Type 0
HasOne {X} xs P = (x : X) × Contains xs x × P x

-- whether a target may use the dependency: a dev-dependency with tests alone, and each if it may be on on a platform
-- that is built for, or on the one that builds
abbrev pub may_be_used : Question → DependencyData → Bool
may_be_used q d = (not (is_development d.section) || q.options.tests)
    && (may_be_on (recorded_status d.part.build_if) (platforms_of q.options.host_platform.now)
    || may_be_on (recorded_status d.part.build_if) (platforms_of q.options.target_platform.now))

-- on the side the dependency is used, and leads to the package, and a target may use it
abbrev pub Uses : Question → BuildPlatform → ℕ → DependencyData → Type 0
Uses q s to d = (d.to ≡ to) × IsTrue (may_be_used q d) × IsOn q (use_of q s d)

-- on the side the dependency is used, and a target may use one of these that leads to the same package
abbrev pub IsUsedAmong : Question → List DependencyData → DependencyData → BuildPlatform → Type 0
IsUsedAmong q ds d s = IsOn q (use_of q s d) × HasOne ds (Uses q s d.to)

-- the dependency is one of the name x, whose package has the feature on, and is used on one of the sides
abbrev pub HasOn : Question → List DependencyData → List ℕ → List ℕ → DependencyData → Type 0
HasOn q ds x name d = IsTrue (bytes_eq d.name x) × IsTrue (is_present (recorded_status d.part.build_if))
    × IsOn q (feature_there q Target name d) × (IsUsedAmong q ds d Target ⊎ IsUsedAmong q ds d Host)

-- what the text requires of the package is on: `x/f` a feature of a dependency, else a feature of its own
abbrev pub IsRequiredOn : Question → ℕ → List ℕ → Type 0
IsRequiredOn q p text =
    (Lacks (codes "/") text × IsOn q (feature_fact q.graph.packages p Target text))
    ⊎ ((x : List ℕ) × (name : List ℕ) × IsCutAt (codes "/") text x name
    × HasOne (dependencies q.graph p) (HasOn q (dependencies q.graph p) x name))

-- what each of the texts requires is on
abbrev pub AreRequiredOn : Question → ℕ → List (String Global) → Type 0
AreRequiredOn q p texts = (text : List ℕ) → Contains (map string_bytes texts) text → IsRequiredOn q p text
