-- What the JSON of a build target says.
use Rattle.std.specs.Prelude.{◌≡◌, ◌≢◌, ◌⊎◌, ℕ, Bool, true, false, not, List, [], ◌∷◌, Option, Some, None, map, option_map, string_bytes, codes}
use Rattle.json.specs.Json.{Json, string, array}
use Rattle.json.specs.Find.{get}
use Rattle.json.specs.Value.{items_of}
use Rattle.guppy_data.specs.declared.records.BuildTargetRecord.{BuildTargetRecord}
use Rattle.guppy_data.specs.declared.records.BuildTargetKindRecord.{BuildTargetKindRecord}
use Rattle.guppy_data.specs.declared.records.BuildTargetKindRecord.TheVariants.{LibraryOrExample, ProcMacro, Binary as BinaryKind}
use Rattle.guppy_data.specs.declared.records.OwnedBuildTargetId.{OwnedBuildTargetId}
use Rattle.guppy_data.specs.declared.records.OwnedBuildTargetId.TheVariants.{Library, BuildScript, Binary, Example, Test, Benchmark}
use Rattle.guppy_metadata.specs.Members.{IsTruth, AreTexts, is_among}

-- the kind of a library is none of the others
abbrev pub IsLibraryKind : List ℕ → Type 0
IsLibraryKind kind = (kind ≢ codes "custom-build") × (kind ≢ codes "bin") × (kind ≢ codes "example")
    × (kind ≢ codes "test") × (kind ≢ codes "bench")

-- what a target of this kind and name is, and the name of a library or build script
abbrev pub IsTargetId : List ℕ → List ℕ → OwnedBuildTargetId → Option (List ℕ) → Type 0
IsTargetId kind name Library lib_name = IsLibraryKind kind × (lib_name ≡ Some name)
IsTargetId kind name BuildScript lib_name = (kind ≡ codes "custom-build") × (lib_name ≡ Some name)
IsTargetId kind name (Binary own) lib_name = (kind ≡ codes "bin") × (string_bytes own ≡ name) × (lib_name ≡ None)
IsTargetId kind name (Example own) lib_name = (kind ≡ codes "example") × (string_bytes own ≡ name) × (lib_name ≡ None)
IsTargetId kind name (Test own) lib_name = (kind ≡ codes "test") × (string_bytes own ≡ name) × (lib_name ≡ None)
IsTargetId kind name (Benchmark own) lib_name = (kind ≡ codes "bench") × (string_bytes own ≡ name) × (lib_name ≡ None)

-- a library of these crate types
abbrev pub IsLibraryOf : List (List ℕ) → BuildTargetKindRecord → Type 0
IsLibraryOf types (LibraryOrExample own) = (text : List ℕ) → is_among (map string_bytes own) text ≡ is_among types text
IsLibraryOf types _ = ⊥

-- what is made of a target, as one of these crate types
abbrev pub IsTargetKind : OwnedBuildTargetId → List (List ℕ) → BuildTargetKindRecord → Type 0
IsTargetKind Library types ProcMacro = is_among types (codes "proc-macro") ≡ true
IsTargetKind Library types kind = (is_among types (codes "proc-macro") ≡ false) × IsLibraryOf types kind
IsTargetKind (Example own) types kind = IsLibraryOf types kind
IsTargetKind _ types kind = kind ≡ BinaryKind

-- a target: of its kinds the first one counts, as a library has one for each of its crate types
pub record IsTarget (d : Json) (r : BuildTargetRecord) : Type 0 where
  pub name : List ℕ
  pub name_is : get (codes "name") d ≡ Some (string name)
  pub kind : List ℕ
  pub others : List (List ℕ)
  pub kinds_are : AreTexts (codes "kind") d (kind ∷ others)
  pub id : IsTargetId kind name r.id (option_map string_bytes r.lib_name)
  pub crate_types : List (List ℕ)
  pub crate_types_are : AreTexts (codes "crate_types") d crate_types
  pub made : IsTargetKind r.id crate_types r.kind
  pub required_features : AreTexts (codes "required-features") d (map string_bytes r.required_features.items)
  pub path : get (codes "src_path") d ≡ Some (string r.path)
  pub edition : get (codes "edition") d ≡ Some (string (string_bytes r.edition))
  pub documented : IsTruth (codes "doc") d true r.doc_by_default
  pub doctested : IsTruth (codes "doctest") d true r.doctest_by_default
  pub tested : IsTruth (codes "test") d true r.test_by_default

-- whether a target of this kind is a library
abbrev pub is_library_kind : List ℕ → Bool
is_library_kind kind = not (is_among (codes "custom-build" ∷ codes "bin" ∷ codes "example" ∷ codes "test" ∷ codes "bench" ∷ []) kind)

-- the first kind of the target is this one
abbrev pub HasKind : Json → List ℕ → Type 0
HasKind d kind = (others : List (List ℕ)) × AreTexts (codes "kind") d (kind ∷ others)

-- the name of a target that is a library; none of any other target
abbrev pub IsLibraryName : Json → Option (List ℕ) → Type 0
IsLibraryName d None = (kind : List ℕ) × HasKind d kind × (is_library_kind kind ≡ false)
IsLibraryName d (Some name) = (kind : List ℕ) × HasKind d kind × (is_library_kind kind ≡ true) × (get (codes "name") d ≡ Some (string name))

-- the name of the first library among these targets, or none where none is one; what stands behind it counts for nothing
abbrev pub IsFirstLibrary : List Json → Option (List ℕ) → Type 0
IsFirstLibrary [] name = name ≡ None
IsFirstLibrary (d ∷ ds) None = IsLibraryName d None × IsFirstLibrary ds None
IsFirstLibrary (d ∷ ds) (Some name) = IsLibraryName d (Some name) ⊎ (IsLibraryName d None × IsFirstLibrary ds (Some name))

-- this is the name of the first library among the targets of the list, or none of them is one
abbrev pub IsLibraryAmong : Json → Option (List ℕ) → Type 0
IsLibraryAmong told name = (items : List Json) × (told ≡ array (items_of items)) × IsFirstLibrary items name
