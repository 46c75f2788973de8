-- What is said of packages, by IDs and names alone: what they need, what they ask for there, and what is built of them.
use Rattle.std.specs.Prelude.{◌≡◌, ◌≢◌, ◌⊎◌, ℕ, List, Contains}
use Rattle.std.specs.String.{string_bytes}
use Rattle.std.specs.declared.string.String.{String}
use Rattle.std.specs.declared.alloc.Global.{Global}
use Rattle.guppy_data.specs.Platform.{Never, recorded_status}
use Rattle.guppy_data.specs.declared.platform.status.PlatformStatusImpl.{PlatformStatusImpl}
use Rattle.guppy_data.specs.declared.records.DepRequiredOrOptional.{DepRequiredOrOptional}
use Rattle.guppy_data.specs.declared.records.LinkRecord.{LinkRecord}
use Rattle.guppy_data.specs.declared.texts.dependency_kind.DependencyKind.{DependencyKind}
use Rattle.guppy_graph.specs.Sections.{section_of}
use Rattle.guppy_built.specs.Rows.{Row}

-- what is needed in a section of a manifest: the package with the ID, under the name
pub record NeedData : Type 0 where
  pub kind : DependencyKind
  pub to : List ℕ
  pub name : List ℕ

-- what is said of a package: what it needs, that it asks for the default features of that, or for the feature of the
-- name, that it is built for a platform, and that one of its features is on there
pub data Mark : Type 0 where
  needs : NeedData → Mark
  asks_for_defaults : NeedData → Mark
  asks_for : NeedData → List ℕ → Mark
  built_for : List ℕ → Mark
  built_with : List ℕ → List ℕ → Mark

-- what the link needs in the section
abbrev pub need : DependencyKind → LinkRecord → NeedData
need kind l = record { kind = kind; to = l.to; name = string_bytes l.dep_name }

-- P holds of what is required or of what is optional in the link's section
abbrev pub InSection : LinkRecord → DependencyKind → (DepRequiredOrOptional → Type 0) → Type 0
InSection l kind P = P (section_of kind l).required ⊎ P (section_of kind l).optional

-- the feature of the name is asked for, and not for no platform
abbrev pub IsNamed : List ℕ → DepRequiredOrOptional → Type 0
IsNamed feature part = (e : String Global × PlatformStatusImpl) × Contains part.feature_targets.entries e
    × (string_bytes e.0 ≡ feature) × (recorded_status e.1 ≢ Never)

-- the mark is one of the package with the ID, by these links and by the rows of what is built
pub data HasMark (links : List LinkRecord) (rows : List Row) : List ℕ → Mark → Type 0 where
  it_needs : (l : LinkRecord) (kind : DependencyKind) → Contains links l
      → InSection l kind (λ part. recorded_status part.build_if ≢ Never)
      → HasMark links rows l.from (needs (need kind l))
  it_asks_for_defaults : (l : LinkRecord) (kind : DependencyKind) → Contains links l
      → InSection l kind (λ part. recorded_status part.default_features_if ≢ Never)
      → HasMark links rows l.from (asks_for_defaults (need kind l))
  it_asks_for : (l : LinkRecord) (kind : DependencyKind) (feature : List ℕ) → Contains links l
      → InSection l kind (IsNamed feature) → HasMark links rows l.from (asks_for (need kind l) feature)
  it_is_built : (row : Row) → Contains rows row → HasMark links rows row.id (built_for row.platform)
  it_is_built_with : (row : Row) (feature : List ℕ) → Contains rows row → Contains row.features feature
      → HasMark links rows row.id (built_with row.platform feature)
