-- Which features of a package are on, and who asks for them.
use Rattle.std.specs.Prelude.{◌≡◌, ◌↔◌, ℕ, List, ◌++◌, map, option_map, Option, Some, slice_get, All, Contains}
use Rattle.std.specs.List.{filter_map, flat_map}
use Rattle.std.specs.List.Sorted.{IsStrictlySortedBy}
use Rattle.std.specs.Ordering.{nat_cmp}
use Rattle.guppy_data.specs.declared.records.PackageRecord.{PackageRecord}
use Rattle.guppy_graph.specs.Graph.{GraphData}
use Rattle.guppy_graph.specs.Ids.{HasId}
use Rattle.guppy_features.specs.Facts.{feature_fact}
use Rattle.guppy_features.specs.Follows.{FollowsFor}
use Rattle.guppy_features.specs.Questions.{Question, question}
use Rattle.guppy_features.specs.Reasons.{AreWays, grounds}
use Rattle.guppy_features.specs.Unresolved.{AreResolved}
use Rattle.guppy_features.specs.declared.fact.BuildPlatform.{BuildPlatform}
use Rattle.guppy_features.specs.declared.fact.BuildPlatform.TheVariants.{Target, Host}
use Rattle.guppy_features.specs.declared.fact.Fact.{Fact}
use Rattle.guppy_features.specs.declared.options.CargoOptions.{CargoOptions}
use Rattle.guppy_features.specs.declared.reason.Reason.{Reason}
use Rattle.guppy_built.specs.declared.askers.FeatureOn.{FeatureOn}
use Rattle.guppy_built.specs.Asked.{Choice, IsAsked}
use Rattle.guppy_built.specs.Refused.{IsOfMember}
use Rattle.guppy_built.specs.Rows.{IsFeatureOn, feature_names}
use Rattle.guppy_built.specs.Those.{AreThose}

-- a feature that is on: on which side, its name, and the IDs of the packages that ask for it
pub record FeatureData : Type 0 where
  pub side : BuildPlatform
  pub name : List ℕ
  pub askers : List (List ℕ)

abbrev pub feature_shown : FeatureOn → FeatureData
feature_shown on = record {
  side = on.side;
  name = on.name.now;
  askers = map (λ id. id.now) on.askers.items;
}

abbrev pub id_at : GraphData → ℕ → Option (List ℕ)
id_at g p = option_map (λ r. r.id) (slice_get g.packages p)

-- the positions of the packages of all that the ways need
abbrev pub needed_positions : List Reason → List ℕ
needed_positions ways = map (λ f. f.position) (flat_map grounds ways)

-- the packages that ask for the fact: those of which something holds from which it follows, by position, each once
pub record AreAskers (q : Question) (f : Fact) (askers : List (List ℕ)) : Type 0 where
  pub ways : List Reason
  pub exact : AreWays (FollowsFor q) f ways
  pub positions : List ℕ
  pub order : IsStrictlySortedBy nat_cmp positions
  pub same : (p : ℕ) → Contains positions p ↔ Contains (needed_positions ways) p
  pub ids : askers ≡ filter_map (id_at q.graph) positions

-- the feature on the side, with who asks for it
pub record IsFeature (q : Question) (p : ℕ) (s : BuildPlatform) (row : FeatureData) : Type 0 where
  pub side : row.side ≡ s
  pub fact : Fact
  pub is : feature_fact q.graph.packages p s row.name ≡ Some fact
  pub askers : AreAskers q fact row.askers

-- the features of the package that are on on the side, in the record's order
pub record AreOnSide (q : Question) (p : ℕ) (s : BuildPlatform) (rows : List FeatureData) : Type 0 where
  pub record_is : PackageRecord
  pub found : slice_get q.graph.packages p ≡ Some record_is
  pub those : AreThose (IsFeatureOn q p s) (feature_names record_is) (map (λ row. row.name) rows)
  pub each : All (IsFeature q p s) rows

-- those on both sides, the target's first
pub record AreOnSides (q : Question) (p : ℕ) (rows : List FeatureData) : Type 0 where
  pub target : List FeatureData
  pub host : List FeatureData
  pub on_target : AreOnSide q p Target target
  pub on_host : AreOnSide q p Host host
  pub all : rows ≡ target ++ host

-- those of the package with the ID for the choice, of which each ID is a member's, where all that is switched on is
-- resolved
pub record AreFeatures (g : GraphData) (c : Choice) (id : List ℕ) (rows : List FeatureData) : Type 0 where
  pub named : All (IsOfMember g.packages) c.members
  pub options : CargoOptions
  pub members : List ℕ
  pub asked : IsAsked g c options members
  pub resolved : AreResolved (question g options)
  pub position : ℕ
  pub found : HasId g.packages id position
  pub exact : AreOnSides (question g options) position rows
