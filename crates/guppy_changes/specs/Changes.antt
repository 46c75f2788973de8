-- Which packages of a state aren't as they were in another one.
use Rattle.std.specs.Prelude.{◌↔◌, true, ℕ, List, [], ◌∷◌, map}
use Rattle.std.specs.List.{AllZip}
use Rattle.guppy_search.specs.declared.graph_core.link.Link.{Link}
use Rattle.guppy_data.specs.declared.platform.spec.PlatformSpec.{PlatformSpec}
use Rattle.guppy_data.specs.declared.records.LinkRecord.{LinkRecord}
use Rattle.guppy_graph.specs.Graph.{GraphData}
use Rattle.guppy_graph.specs.Ids.{HasId, IsKnown, ids_of}
use Rattle.guppy_graph.specs.Members.{AreMembersByPath}
use Rattle.guppy_target.specs.Platform.{PlatformData}
use Rattle.guppy_features.specs.declared.options.CargoResolverVersion.{CargoResolverVersion}
use Rattle.guppy_features.specs.declared.options.StandardFeatures.{StandardFeatures}
use Rattle.guppy_built.specs.Asked.{Choice}
use Rattle.guppy_built.specs.Rows.{Row, AreBuiltAsResolved}
use Rattle.guppy_changes.specs.declared.setting.BuildSetting.{BuildSetting}
use Rattle.guppy_changes.specs.Marks.{Mark, HasMark}

-- how is built: with which features of members, for which platforms, on which one, and by which resolver
pub record Setting : Type 0 where
  pub standard : StandardFeatures
  pub target : PlatformSpec PlatformData
  pub host : PlatformSpec PlatformData
  pub resolver : CargoResolverVersion

abbrev pub setting_of : BuildSetting → Setting
setting_of s = record {
  standard = s.standard;
  target = s.target_platform.now;
  host = s.host_platform.now;
  resolver = s.resolver;
}

-- the IDs of the members, by path
abbrev pub AreMembers : GraphData → List (List ℕ) → Type 0
AreMembers g ids = (positions : List ℕ) × AreMembersByPath g.packages positions
    × AllZip (λ p id. HasId g.packages id p) positions ids

-- the members with these IDs, with these of their features and their tests
abbrev pub all_of : List (List ℕ) → Setting → Choice
all_of ids s = record {
  members = ids;
  features = [];
  standard = s.standard;
  tests = true;
  resolver = s.resolver;
  target = s.target;
  host = s.host;
}

-- the rows of what Cargo builds of all members, as far as the metadata resolve it
pub record AreAllBuilt (g : GraphData) (s : Setting) (rows : List Row) : Type 0 where
  pub ids : List (List ℕ)
  pub members : AreMembers g ids
  pub built : AreBuiltAsResolved g (all_of ids s) rows

-- a state: its graph, and what is built of it
pub record State : Type 0 where
  pub graph : GraphData
  pub rows : List Row

abbrev pub state : GraphData → List Row → State
state g rows = record { graph = g; rows = rows }

-- the links without positions
abbrev pub edges : List (Link LinkRecord) → List LinkRecord
edges links = map (λ l. l.edge) links

-- in the state, the mark is one of the package with the ID
abbrev pub IsMarked : State → List ℕ → Mark → Type 0
IsMarked s = HasMark (edges s.graph.links) s.rows

-- the package with the ID was there before, and has exactly the marks that it had
abbrev pub IsUnchanged : State → State → List ℕ → Type 0
IsUnchanged before now id = IsKnown before.graph.packages id
    × ((mark : Mark) → IsMarked before id mark ↔ IsMarked now id mark)

-- the second list has those of the first of which P doesn't hold, in their order
pub data AreOthers {X : Type 0} (P : X → Type 0) : List X → List X → Type 0 where
  none : AreOthers P [] []
  fails : (x : X) {all others : List X} → ¬ P x → AreOthers P all others → AreOthers P (x ∷ all) (x ∷ others)
  holds : (x : X) {all others : List X} → P x → AreOthers P all others → AreOthers P (x ∷ all) others

-- the IDs of the packages that aren't unchanged, by position
pub record AreChanged (before now : GraphData) (s : Setting) (ids : List (List ℕ)) : Type 0 where
  pub rows_before : List Row
  pub rows_now : List Row
  pub built_before : AreAllBuilt before s rows_before
  pub built_now : AreAllBuilt now s rows_now
  pub others : AreOthers (IsUnchanged (state before rows_before) (state now rows_now)) (ids_of now.packages) ids
