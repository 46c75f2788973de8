-- Which members of the workspace iterators have still to give.
use Rattle.std.specs.Prelude.{ℕ, List, map, Option, Some}
use Rattle.std.specs.Borrow.{Bor}
use Rattle.std.specs.Slice.Iter.{iter_rest}
use Rattle.guppy_data.specs.Utf8Path.{path_text}
use Rattle.guppy_data.specs.declared.texts.path.Utf8Path.{Utf8Path}
use Rattle.guppy.specs.declared.metadata.PackageMetadata.{PackageMetadata}
use Rattle.guppy.specs.Views.{graph_of, graph_packages, package_position, package_seen}
use Rattle.guppy.specs.declared.workspace.members.Members.{Members}
use Rattle.guppy.specs.declared.workspace.members.MembersByPath.{MembersByPath}
use Rattle.guppy.specs.declared.workspace.members.MembersByName.{MembersByName}
use Rattle.guppy.specs.declared.workspace.members.MemberIds.{MemberIds}
use Rattle.guppy.specs.declared.workspace.default_members.DefaultMemberIds.{DefaultMemberIds}
use Rattle.guppy.specs.declared.workspace.default_members.DefaultMembers.{DefaultMembers}
use Rattle.guppy_graph.specs.Keys.{or_empty}
use Rattle.guppy_graph.specs.Ids.{id_at}
use Rattle.guppy_graph.specs.Members.{path_at, name_at}
use Rattle.guppy_graph.specs.Graph.{GraphData}

-- the packages of the graph at these positions
abbrev pub at_positions : Bor GraphData → List ℕ → List (Bor GraphData × ℕ)
at_positions g positions = map (λ p. (g, p)) positions

abbrev pub members_left : Members → List (Bor GraphData × ℕ)
members_left s = at_positions s.graph (iter_rest s.rest)

-- a member behind its path
abbrev pub with_path : Bor GraphData × ℕ → List ℕ × (Bor GraphData × ℕ)
with_path m = (or_empty (path_at m.0.now.packages m.1), m)

abbrev pub path_and_member_seen : Utf8Path × PackageMetadata → List ℕ × (Bor GraphData × ℕ)
path_and_member_seen e = (path_text e.0, package_seen e.1)

abbrev pub by_path_left : MembersByPath → List (List ℕ × (Bor GraphData × ℕ))
by_path_left s = map with_path (members_left s.members)

-- a member behind its name
abbrev pub with_name : Bor GraphData × ℕ → List ℕ × (Bor GraphData × ℕ)
with_name m = (or_empty (name_at m.0.now.packages m.1), m)

abbrev pub name_and_member_seen : Bor (List ℕ) × PackageMetadata → List ℕ × (Bor GraphData × ℕ)
name_and_member_seen e = (e.0.now, package_seen e.1)

abbrev pub by_name_left : MembersByName → List (List ℕ × (Bor GraphData × ℕ))
by_name_left s = map with_name (members_left s.members)

-- the ID of a member
abbrev pub member_id : Bor GraphData × ℕ → List ℕ
member_id m = or_empty (id_at m.0.now.packages m.1)

abbrev pub member_ids_left : MemberIds → List (List ℕ)
member_ids_left s = map member_id (members_left s.members)

abbrev pub default_ids_left : DefaultMemberIds → List (List ℕ)
default_ids_left s = iter_rest s.rest

-- a default member is seen as its graph and its ID
abbrev pub default_seen : PackageMetadata → Bor GraphData × Option (List ℕ)
default_seen m = (graph_of m, id_at (graph_packages m) (package_position m))

-- the packages of the graph with these IDs
abbrev pub with_ids : Bor GraphData → List (List ℕ) → List (Bor GraphData × Option (List ℕ))
with_ids g ids = map (λ id. (g, Some id)) ids

abbrev pub defaults_left : DefaultMembers → List (Bor GraphData × Option (List ℕ))
defaults_left s = with_ids s.graph (iter_rest s.rest)
