-- What the JSON says of the workspace.
use Rattle.std.specs.Prelude.{◌≡◌, ◌≢◌, ◌⊎◌, ℕ, List, Option, Some, None, unwrap_or, codes}
use Rattle.json.specs.Json.{Json, null, string}
use Rattle.json.specs.Find.{get}
use Rattle.serde_json.specs.View.{view}
use Rattle.guppy_data.specs.declared.records.WorkspaceRecord.{WorkspaceRecord}
use Rattle.guppy_metadata.specs.Members.{present, AreTexts}
use Rattle.guppy_metadata.specs.Table.{IsTable}

-- the path that Cargo builds on its way into, where one is told and it is another one than this
abbrev pub IsBuildDirectory : Json → List ℕ → Option (List ℕ) → Type 0
IsBuildDirectory d target None = (present (codes "build_directory") d ≡ None)
    ⊎ (present (codes "build_directory") d ≡ Some (string target))
IsBuildDirectory d target (Some path) =
    (present (codes "build_directory") d ≡ Some (string path)) × (path ≢ target)

pub record IsWorkspace (d : Json) (r : WorkspaceRecord) : Type 0 where
  pub root : get (codes "workspace_root") d ≡ Some (string r.root)
  pub target_directory : get (codes "target_directory") d ≡ Some (string r.target_directory)
  pub build_directory : IsBuildDirectory d r.target_directory r.build_directory
  pub metadata_table : IsTable (unwrap_or (get (codes "metadata") d) null) (view r.metadata_table)
  pub default_members : AreTexts (codes "workspace_default_members") d r.default_members.items
