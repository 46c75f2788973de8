-- What names a build target in its package, and the order of these names.
use Rattle.std.specs.Prelude.{ℕ, List, [], ◌++◌, Option, None, Some, unwrap_or}
use Rattle.std.specs.Ordering.{nat_cmp, on, then_cmp}
use Rattle.std.specs.declared.cmp.Ordering.{Ordering}
use Rattle.std.specs.Cmp.Lexicographic.{slice_cmp}
use Rattle.std.specs.Hash.{HashWrites, u8, str}
use Rattle.std.specs.String.{string_bytes}
use Rattle.guppy_data.specs.declared.records.OwnedBuildTargetId.{OwnedBuildTargetId}
use Rattle.guppy_data.specs.declared.records.OwnedBuildTargetId.TheVariants.{Library as RecordedLibrary, BuildScript as RecordedBuildScript, Binary as RecordedBinary, Example as RecordedExample, Test as RecordedTest, Benchmark as RecordedBenchmark}
use Rattle.guppy_data.specs.declared.views.build_target_id.BuildTargetId.{BuildTargetId}
use Rattle.guppy_data.specs.declared.views.build_target_id.BuildTargetId.TheVariants.{Library as SeenLibrary, BuildScript as SeenBuildScript, Binary as SeenBinary, Example as SeenExample, Test as SeenTest, Benchmark as SeenBenchmark}

-- what a build target is, with its name where it is no library or build script
pub data TargetId : Type 0 where
  Library : TargetId
  BuildScript : TargetId
  Binary : List ℕ → TargetId
  Example : List ℕ → TargetId
  Test : List ℕ → TargetId
  Benchmark : List ℕ → TargetId

-- Library < BuildScript < Binary < Example < Test < Benchmark
abbrev pub rank_of : TargetId → ℕ
rank_of Library = 0
rank_of BuildScript = 1
rank_of (Binary name) = 2
rank_of (Example name) = 3
rank_of (Test name) = 4
rank_of (Benchmark name) = 5

-- the name in the ID
abbrev pub id_name : TargetId → Option (List ℕ)
id_name Library = None
id_name BuildScript = None
id_name (Binary name) = Some name
id_name (Example name) = Some name
id_name (Test name) = Some name
id_name (Benchmark name) = Some name

-- the name in the ID, empty where there is none
abbrev pub name_or_empty : TargetId → List ℕ
name_or_empty id = unwrap_or (id_name id) []

-- by rank, and two of one rank by the bytes of their names
abbrev pub target_id_cmp : TargetId → TargetId → Ordering
target_id_cmp = then_cmp (on rank_of nat_cmp) (on name_or_empty (slice_cmp nat_cmp))

-- what an ID feeds a hasher
abbrev pub target_id_hash : TargetId → HashWrites
target_id_hash id = u8 (rank_of id) ++ str (name_or_empty id)

-- the ID that is recorded
abbrev pub recorded_id : OwnedBuildTargetId → TargetId
recorded_id RecordedLibrary = Library
recorded_id RecordedBuildScript = BuildScript
recorded_id (RecordedBinary name) = Binary (string_bytes name)
recorded_id (RecordedExample name) = Example (string_bytes name)
recorded_id (RecordedTest name) = Test (string_bytes name)
recorded_id (RecordedBenchmark name) = Benchmark (string_bytes name)

-- the ID that is seen
abbrev pub seen_id : BuildTargetId → TargetId
seen_id SeenLibrary = Library
seen_id SeenBuildScript = BuildScript
seen_id (SeenBinary name) = Binary name.now
seen_id (SeenExample name) = Example name.now
seen_id (SeenTest name) = Test name.now
seen_id (SeenBenchmark name) = Benchmark name.now
