-- Where a package comes from.
use Rattle.std.specs.Prelude.{ℕ, List, Option, None, Some}
use Rattle.std.specs.String.{string_bytes}
use Rattle.guppy_data.specs.declared.records.PackageSourceRecord.{PackageSourceRecord}
use Rattle.guppy_data.specs.declared.records.PackageSourceRecord.TheVariants.{Workspace as RecordedWorkspace, Path as RecordedPath, External as RecordedExternal}
use Rattle.guppy_data.specs.declared.views.source.PackageSource.{PackageSource}
use Rattle.guppy_data.specs.declared.views.source.PackageSource.TheVariants.{Workspace as SeenWorkspace, Path as SeenPath, External as SeenExternal}
use Rattle.guppy_data.specs.ExternalSource.{Source, IsSource}
use Rattle.guppy_data.specs.Utf8Path.{path_text}

-- a member of the workspace at a path, no member and at a path, or from what a text says
pub data Origin : Type 0 where
  Workspace : List ℕ → Origin
  Path : List ℕ → Origin
  External : List ℕ → Origin

-- the path of a workspace member
abbrev pub workspace_path : Origin → Option (List ℕ)
workspace_path (Workspace path) = Some path
workspace_path (Path path) = None
workspace_path (External text) = None

-- the path of a package that is no workspace member
abbrev pub other_path : Origin → Option (List ℕ)
other_path (Workspace path) = None
other_path (Path path) = Some path
other_path (External text) = None

-- the path of either
abbrev pub local_path : Origin → Option (List ℕ)
local_path (Workspace path) = Some path
local_path (Path path) = Some path
local_path (External text) = None

-- the text of a package from elsewhere
abbrev pub external_text : Origin → Option (List ℕ)
external_text (Workspace path) = None
external_text (Path path) = None
external_text (External text) = Some text

-- the package is from elsewhere, and its text says this source
abbrev pub IsFromSource : Origin → Source → Type 0
IsFromSource (Workspace path) source = ⊥
IsFromSource (Path path) source = ⊥
IsFromSource (External text) source = IsSource text source

-- the text that is printed
abbrev pub origin_text : Origin → List ℕ
origin_text (Workspace path) = path
origin_text (Path path) = path
origin_text (External text) = text

-- what is recorded
abbrev pub recorded_origin : PackageSourceRecord → Origin
recorded_origin (RecordedWorkspace path) = Workspace path
recorded_origin (RecordedPath path) = Path path
recorded_origin (RecordedExternal text) = External (string_bytes text)

-- what is seen
abbrev pub seen_origin : PackageSource → Origin
seen_origin (SeenWorkspace path) = Workspace (path_text path)
seen_origin (SeenPath path) = Path (path_text path)
seen_origin (SeenExternal text) = External text.now
