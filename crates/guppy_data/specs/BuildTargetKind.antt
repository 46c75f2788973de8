-- What is made of a build target.
use Rattle.std.specs.Prelude.{ℕ, List, map}
use Rattle.std.specs.Ordering.{nat_cmp}
use Rattle.std.specs.Cmp.Lexicographic.{slice_cmp}
use Rattle.std.specs.List.Sorted.{IsStrictlySortedBy}
use Rattle.std.specs.String.{string_bytes}
use Rattle.guppy_data.specs.declared.records.BuildTargetKindRecord.{BuildTargetKindRecord}
use Rattle.guppy_data.specs.declared.records.BuildTargetKindRecord.TheVariants.{LibraryOrExample as RecordedLibraryOrExample, ProcMacro as RecordedProcMacro, Binary as RecordedBinary}
use Rattle.guppy_data.specs.declared.views.build_target_kind.BuildTargetKind.{BuildTargetKind}
use Rattle.guppy_data.specs.declared.views.build_target_kind.BuildTargetKind.TheVariants.{LibraryOrExample as SeenLibraryOrExample, ProcMacro as SeenProcMacro, Binary as SeenBinary}

-- a library or an example of these crate types, a procedural macro, or a binary
pub data TargetKind : Type 0 where
  LibraryOrExample : List (List ℕ) → TargetKind
  ProcMacro : TargetKind
  Binary : TargetKind

-- the crate types ascend by their bytes, so no two are equal
abbrev pub HasAscendingTypes : TargetKind → Type 0
HasAscendingTypes (LibraryOrExample types) = IsStrictlySortedBy (slice_cmp nat_cmp) types
HasAscendingTypes ProcMacro = Unit {0}
HasAscendingTypes Binary = Unit {0}

-- the kind that is recorded
abbrev pub recorded_kind : BuildTargetKindRecord → TargetKind
recorded_kind (RecordedLibraryOrExample types) = LibraryOrExample (map string_bytes types)
recorded_kind RecordedProcMacro = ProcMacro
recorded_kind RecordedBinary = Binary

-- the kind that is seen
abbrev pub seen_kind : BuildTargetKind → TargetKind
seen_kind (SeenLibraryOrExample types) = LibraryOrExample (map string_bytes types.now)
seen_kind SeenProcMacro = ProcMacro
seen_kind SeenBinary = Binary
