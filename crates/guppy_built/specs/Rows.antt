-- What is built, a row for each package on each platform.
use Rattle.std.specs.Prelude.{◌≡◌, ◌↔◌, codes, ℕ, Bool, true, false, ◌&&◌, List, map, filter, slice_get, All, Contains, Some, is_some}
use Rattle.std.specs.List.{AllZip}
use Rattle.std.specs.List.Sorted.{IsStrictlySortedBy}
use Rattle.std.specs.Option.{option_map_or}
use Rattle.std.specs.String.{string_bytes}
use Rattle.guppy_closure.specs.Relations.{HoldsBy}
use Rattle.guppy_data.specs.declared.platform.spec.PlatformSpec.{PlatformSpec}
use Rattle.guppy_data.specs.declared.platform.spec.PlatformSpec.TheVariants.{Always, Platforms, Any}
use Rattle.guppy_data.specs.declared.records.PackageRecord.{PackageRecord}
use Rattle.guppy_graph.specs.Graph.{GraphData}
use Rattle.guppy_target.specs.Platform.{PlatformData}
use Rattle.guppy_features.specs.Facts.{feature_fact}
use Rattle.guppy_features.specs.Questions.{Question, question}
use Rattle.guppy_features.specs.Unresolved.{AreResolved}
use Rattle.guppy_features.specs.declared.fact.BuildPlatform.{BuildPlatform}
use Rattle.guppy_features.specs.declared.options.CargoOptions.{CargoOptions}
use Rattle.guppy_builds.specs.BuildOrder.{build_cmp}
use Rattle.guppy_builds.specs.Building.{Builds, builds}
use Rattle.guppy_builds.specs.Follows.{BuildsFor}
use Rattle.guppy_builds.specs.Places.{features_side}
use Rattle.guppy_builds.specs.Required.{IsOn}
use Rattle.guppy_builds.specs.declared.build.Build.{Build}
use Rattle.guppy_builds.specs.declared.build.BuildMode.{BuildMode}
use Rattle.guppy_builds.specs.declared.build.BuildMode.TheVariants.{Build as Alone, Test}
use Rattle.guppy_builds.specs.declared.build.BuildPlace.{BuildPlace}
use Rattle.guppy_builds.specs.declared.build.BuildPlace.TheVariants.{Target, Host}
use Rattle.guppy_built.specs.declared.rows.BuiltPackage.{BuiltPackage}
use Rattle.guppy_built.specs.Asked.{Choice, IsAsked}
use Rattle.guppy_built.specs.Refused.{IsOfMember}
use Rattle.guppy_built.specs.Those.{AreThose}

-- a package that is built: its ID, what the platform is called, and its features
pub record Row : Type 0 where
  pub id : List ℕ
  pub platform : List ℕ
  pub features : List (List ℕ)

abbrev pub row_of : BuiltPackage → Row
row_of built = record {
  id = built.id.now;
  platform = built.platform.now;
  features = map (λ name. name.now) built.features.items;
}

-- the names of the package's features
abbrev pub feature_names : PackageRecord → List (List ℕ)
feature_names r = map (λ e. string_bytes e.0) r.named_features.entries

-- the package's feature of this name is on on the side
abbrev pub IsFeatureOn : Question → ℕ → BuildPlatform → List ℕ → Type 0
IsFeatureOn q p s name = IsOn q (feature_fact q.graph.packages p s name)

-- what the platform is called: by its name, if it has one, and the one that builds `host`
abbrev pub platform_name : PlatformSpec PlatformData → BuildPlace → List ℕ
platform_name (Platforms list) (Target i) =
    option_map_or (λ platform. platform.triple) (slice_get list.items i) (codes "target")
platform_name Always (Target i) = codes "target"
platform_name Any (Target i) = codes "target"
platform_name platforms Host = codes "host"

abbrev pub is_alone : BuildMode → Bool
is_alone Alone = true
is_alone Test = false

-- what is built has a row: a package of the graph, once on each platform, not again with its dev-dependencies
abbrev pub has_row : GraphData → Build → Bool
has_row g b = is_alone b.mode && is_some (slice_get g.packages b.position)

-- the row of what is built: of its package, with the features that are on where it is built, in the record's order
pub record IsRow (b : Builds) (x : Build) (row : Row) : Type 0 where
  pub record_is : PackageRecord
  pub found : slice_get b.question.graph.packages x.position ≡ Some record_is
  pub id : row.id ≡ record_is.id
  pub platform : row.platform ≡ platform_name b.question.options.target_platform.now x.place
  pub features : AreThose (IsFeatureOn b.question x.position (features_side b.question x.place))
      (feature_names record_is) row.features

-- the rows of all that is built, by position and platform
pub record AreRows (b : Builds) (rows : List Row) : Type 0 where
  pub built : List Build
  pub exact : (x : Build) → Contains built x ↔ HoldsBy (BuildsFor b.question b.members) x
  pub order : IsStrictlySortedBy build_cmp built
  pub rows_are : AllZip (IsRow b) (filter (has_row b.question.graph) built) rows

-- the rows of what Cargo builds by the choice, of which each ID is a member's, where all that is switched on is resolved
pub record AreBuilt (g : GraphData) (c : Choice) (rows : List Row) : Type 0 where
  pub named : All (IsOfMember g.packages) c.members
  pub options : CargoOptions
  pub members : List ℕ
  pub asked : IsAsked g c options members
  pub resolved : AreResolved (question g options)
  pub exact : AreRows (builds (question g options) members) rows

-- the same of what is resolved, whatever isn't
pub record AreBuiltAsResolved (g : GraphData) (c : Choice) (rows : List Row) : Type 0 where
  pub options : CargoOptions
  pub members : List ℕ
  pub asked : IsAsked g c options members
  pub exact : AreRows (builds (question g options) members) rows
