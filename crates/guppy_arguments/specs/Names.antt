-- What packages are called.
use Rattle.std.specs.Prelude.{◌≡◌, ℕ, Bool, false, ◌||◌, List, [], ◌∷◌, ◌++◌, Vec, String, map, codes, if◌then◌else◌}
use Rattle.std.specs.declared.alloc.Global.{Global}
use Rattle.std.specs.Borrow.{Bor}
use Rattle.std.specs.List.{filter, find}
use Rattle.std.specs.Option.{option_map_or}
use Rattle.indexmap.specs.IndexMap.{IndexMap, get_by_text}
use Rattle.std.specs.Str.{bytes_eq}
use Rattle.std.specs.String.{string_bytes}
use Rattle.indexmap.specs.IndexSet.{IndexSet, contains_by}
use Rattle.guppy_data.specs.declared.records.PackageRecord.{PackageRecord}
use Rattle.guppy_command.specs.Ids.{has_id, is_only, full_name_of}
use Rattle.guppy_arguments.specs.declared.names.Names.{Names}

abbrev pub name_of : PackageRecord → List ℕ
name_of r = string_bytes r.name

-- the text is the package's name, or its name with its version
abbrev pub is_called : List ℕ → PackageRecord → Bool
is_called text r = bytes_eq text (name_of r) || bytes_eq text (full_name_of r)

-- the IDs of the packages that are called so, in their order
abbrev pub called : List PackageRecord → List ℕ → List (List ℕ)
called packages text = map (λ r. r.id) (filter (is_called text) packages)

-- the IDs of the packages that a word may mean: the one whose ID it is, and else those called so
abbrev pub meant : List PackageRecord → List ℕ → List (List ℕ)
meant packages word = if has_id word packages then word ∷ [] else called packages word

-- the first of the package's name, its name with its version, and its ID that means it alone
abbrev pub printed : List PackageRecord → PackageRecord → List ℕ
printed packages r = if is_only r.id (meant packages (name_of r)) then name_of r
    else (if is_only r.id (meant packages (full_name_of r)) then full_name_of r else r.id)

-- what is printed for the first package with the ID, which is the only one in a graph; where none has it, the ID
abbrev pub text : List PackageRecord → List ℕ → List ℕ
text packages id = option_map_or (printed packages) (find (λ r. bytes_eq id r.id) packages) id

-- the set has the packages' IDs
abbrev pub AreIds : {S : Type 0} → List PackageRecord → IndexSet (Bor (List ℕ)) S → Type 0
AreIds packages ids = (id : List ℕ) → contains_by (λ key. bytes_eq id key.now) ids ≡ has_id id packages

-- behind each text stand the IDs of the packages that are called so
abbrev pub AreCalled : {S : Type 0} → List PackageRecord → IndexMap (String Global) (Vec (List ℕ) Global) S → Type 0
AreCalled packages ids_by_text = (word : List ℕ)
    → option_map_or (λ ids. ids.items) (get_by_text ids_by_text word) [] ≡ called packages word

-- behind each ID stands what is printed for the package
abbrev pub AreTexts : {S : Type 0} → List PackageRecord → IndexMap (String Global) (String Global) S → Type 0
AreTexts packages texts = (id : List ℕ)
    → option_map_or string_bytes (get_by_text texts id) id ≡ text packages id

-- the names are those of these packages
pub record AreNames (names : Names) (packages : List PackageRecord) : Type 0 where
  pub called_are : AreCalled packages names.called
  pub texts_are : AreTexts packages names.texts
