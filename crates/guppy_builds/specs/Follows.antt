-- What is built, and of what.
use Rattle.std.specs.Prelude.{◌⊎◌, ⊤, ℕ, ◌<◌, Bool, true, false, ◌&&◌, ◌||◌, not, if◌then◌else◌, IsTrue, List, [], ◌∷◌, length, slice_get, Contains}
use Rattle.std.specs.List.{list_any}
use Rattle.std.specs.Option.{option_map_or}
use Rattle.guppy_data.specs.declared.records.BuildTargetRecord.{BuildTargetRecord}
use Rattle.guppy_data.specs.declared.records.OwnedBuildTargetId.{OwnedBuildTargetId}
use Rattle.guppy_data.specs.declared.records.OwnedBuildTargetId.TheVariants.{BuildScript, Binary, Example}
use Rattle.guppy_features.specs.Dependencies.{DependencyData}
use Rattle.guppy_features.specs.Questions.{Question, is_library, is_macro, is_macro_library, is_build, is_development, use_of}
use Rattle.guppy_features.specs.Follows.{IsDependency}
use Rattle.guppy_builds.specs.declared.build.BuildPlace.{BuildPlace}
use Rattle.guppy_builds.specs.declared.build.BuildPlace.TheVariants.{Target, Host}
use Rattle.guppy_builds.specs.declared.build.Build.{Build}
use Rattle.guppy_builds.specs.Builds.{built, tested}
use Rattle.guppy_builds.specs.Places.{platform_count, is_on_at, place_of, features_side}
use Rattle.guppy_builds.specs.Required.{IsOn, AreRequiredOn}

-- the targets of the package
abbrev pub targets_of : Question → ℕ → List BuildTargetRecord
targets_of q p = option_map_or (λ r. r.build_targets.items) (slice_get q.graph.packages p) []

abbrev pub is_binary : OwnedBuildTargetId → Bool
is_binary (Binary name) = true
is_binary _ = false

abbrev pub is_example : OwnedBuildTargetId → Bool
is_example (Example name) = true
is_example _ = false

abbrev pub is_script : OwnedBuildTargetId → Bool
is_script BuildScript = true
is_script _ = false

-- whether the target of a chosen member is to be built: the library and binaries, and with tests in their place what
-- is tested, and examples
abbrev pub is_asked : Question → BuildTargetRecord → Bool
is_asked q t = if q.options.tests
    then t.test_by_default || (is_example t.id || (is_library t.id && t.doctest_by_default))
    else is_library t.id || is_binary t.id

-- the target of the package is to be built, and has what it requires, which of a library is nothing
abbrev pub IsBuilt : Question → ℕ → BuildTargetRecord → Type 0
IsBuilt q p t = IsTrue (is_asked q t) × (IsTrue (is_library t.id) ⊎ AreRequiredOn q p t.required_features.items)

-- where a target is built for the platform of the place: a procedural macro on the host
abbrev pub target_place : BuildTargetRecord → ℕ → BuildPlace
target_place t i = if is_macro_library t then Host else Target i

-- whether the package has a build script
abbrev pub has_script : Question → ℕ → Bool
has_script q p = list_any (λ t. is_script t.id) (targets_of q p)

-- whether the dependency is looked at where its package is built: a build dependency for a build script alone
abbrev pub is_needed : Question → DependencyData → Bool
is_needed q d = not (is_build d.section) || has_script q d.from

-- what is built uses the dependency there
abbrev pub IsUsedAt : Question → BuildPlace → DependencyData → Type 0
IsUsedAt q at d = IsTrue (is_needed q d) × IsTrue (is_on_at q at d)
    × IsOn q (use_of q (features_side q at) d)

-- that what uses the dependency is built there
abbrev pub user_of : BuildPlace → DependencyData → Build
user_of at d = if is_development d.section then tested d.from at else built d.from at

-- the place is a platform that is built for, or the host
abbrev pub IsPlace : Question → BuildPlace → Type 0
IsPlace q (Target i) = i < platform_count q
IsPlace q Host = ⊤

-- where all of the body is built, so is the head; the members are those that are chosen
pub data BuildsFor (q : Question) (members : List ℕ) : List Build → Build → Type 0 where
  -- a chosen member is, for each platform, where a target of it is
  target : (m : ℕ) (t : BuildTargetRecord) (i : ℕ) → Contains members m → Contains (targets_of q m) t
      → IsBuilt q m t → i < platform_count q → BuildsFor q members [] (built m (target_place t i))
  -- with tests, that is with its dev-dependencies
  test : (m : ℕ) (t : BuildTargetRecord) (i : ℕ) → Contains members m → Contains (targets_of q m) t
      → IsBuilt q m t → i < platform_count q → IsTrue q.options.tests
      → BuildsFor q members [] (tested m (target_place t i))
  -- a procedural macro of which something is built is built on the host
  own_macro : (p : ℕ) (at : BuildPlace) → p < length q.graph.packages → IsTrue (is_macro q p) → IsPlace q at
      → BuildsFor q members (built p at ∷ []) (built p Host)
  -- and so is the package of a dependency that is used
  dependency : (d : DependencyData) (at : BuildPlace) → IsDependency q d → IsPlace q at → IsUsedAt q at d
      → BuildsFor q members (user_of at d ∷ []) (built d.to (place_of q at d))
