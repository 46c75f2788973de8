-- Which packages run on the host: the platform that builds.
use Rattle.std.specs.Prelude.{◌↔◌, ℕ, Bool, true, false, List, Contains, IsTrue}
use Rattle.std.specs.List.{list_any}
use Rattle.guppy_data.specs.declared.records.BuildTargetKindRecord.{BuildTargetKindRecord}
use Rattle.guppy_data.specs.declared.records.BuildTargetKindRecord.TheVariants.{ProcMacro}
use Rattle.guppy_data.specs.declared.records.LinkRecord.{LinkRecord}
use Rattle.guppy_data.specs.declared.records.PackageRecord.{PackageRecord}
use Rattle.guppy_platforms.specs.Counting.{is_asked_for}

-- a procedural macro, which the compiler runs
abbrev pub is_macro_kind : BuildTargetKindRecord → Bool
is_macro_kind ProcMacro = true
is_macro_kind _ = false

-- one of the package's targets is a procedural macro
abbrev pub is_macro : PackageRecord → Bool
is_macro p = list_any (λ target. is_macro_kind target.kind) p.build_targets.items

-- the package with this ID runs on the host: it is a procedural macro, some package asks for it to build, or one that
-- runs on the host depends on it
pub data RunsOnHost (packages : List PackageRecord) (links : List LinkRecord) : List ℕ → Type 0 where
  expands : (p : PackageRecord) → Contains packages p → IsTrue (is_macro p) → RunsOnHost packages links p.id
  builds : (l : LinkRecord) → Contains links l → IsTrue (is_asked_for l.build) → RunsOnHost packages links l.to
  needed : (l : LinkRecord) → Contains links l → RunsOnHost packages links l.from → RunsOnHost packages links l.to

-- the truth value says whether the package that depends runs on the host
abbrev pub IsMark : List PackageRecord → List LinkRecord → LinkRecord → Bool → Type 0
IsMark packages links link mark = IsTrue mark ↔ RunsOnHost packages links link.from
