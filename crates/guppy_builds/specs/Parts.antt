-- What the chosen members, and the packages with their dependencies, add to what is built.
use Rattle.std.specs.Prelude.{ℕ, IsTrue, Some, None, List, length}
use Rattle.guppy_data.specs.declared.records.BuildTargetRecord.{BuildTargetRecord}
use Rattle.guppy_features.specs.Dependencies.{DependencyData, dependencies}
use Rattle.guppy_features.specs.Questions.{Question, is_macro}
use Rattle.guppy_features.specs.Adding.{Where, Either, If, OfSome, OfBelow}
use Rattle.guppy_builds.specs.declared.build.BuildPlace.{BuildPlace}
use Rattle.guppy_builds.specs.declared.build.BuildPlace.TheVariants.{Target, Host}
use Rattle.guppy_builds.specs.declared.build.Build.{Build}
use Rattle.guppy_builds.specs.Builds.{built, tested}
use Rattle.guppy_builds.specs.Places.{platform_count, place_of}
use Rattle.guppy_builds.specs.Follows.{targets_of, target_place, IsBuilt, IsUsedAt, user_of}

-- that the package is built there and, with tests, with its dev-dependencies
abbrev pub OnPlace : Question → ℕ → BuildPlace → List Build → Build → Type 0
OnPlace q m at = Either (Where None None (Some (built m at)))
    (If (IsTrue q.options.tests) (Where None None (Some (tested m at))))

-- on each platform, where the target is built
abbrev pub OnPlaces : Question → ℕ → BuildTargetRecord → List Build → Build → Type 0
OnPlaces q m t = OfBelow (platform_count q) (λ i. OnPlace q m (target_place t i))

-- of each target that is to be built
abbrev pub OfTarget : Question → ℕ → BuildTargetRecord → List Build → Build → Type 0
OfTarget q m t = If (IsBuilt q m t) (OnPlaces q m t)

abbrev pub OfMember : Question → ℕ → List Build → Build → Type 0
OfMember q m = OfSome (targets_of q m) (OfTarget q m)

-- what the dependency leads to, if it is used there
abbrev pub OfDependency : Question → BuildPlace → DependencyData → List Build → Build → Type 0
OfDependency q at d =
    If (IsUsedAt q at d) (Where (Some (user_of at d)) None (Some (built d.to (place_of q at d))))

-- a procedural macro on the host
abbrev pub OfMacro : Question → ℕ → BuildPlace → List Build → Build → Type 0
OfMacro q p at = If (IsTrue (is_macro q p)) (Where (Some (built p at)) None (Some (built p Host)))

-- what follows where the package is built there
abbrev pub OfPackageAt : Question → ℕ → BuildPlace → List Build → Build → Type 0
OfPackageAt q p at = Either (OfMacro q p at) (OfSome (dependencies q.graph p) (OfDependency q at))

abbrev pub OfPackage : Question → ℕ → List Build → Build → Type 0
OfPackage q p = Either (OfBelow (platform_count q) (λ i. OfPackageAt q p (Target i))) (OfPackageAt q p Host)

-- what all of them add
abbrev pub OfAll : Question → List ℕ → List Build → Build → Type 0
OfAll q members =
    Either (OfSome members (OfMember q)) (OfBelow (length q.graph.packages) (OfPackage q))
