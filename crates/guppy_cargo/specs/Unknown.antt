-- Words that mean no package, and the names near them.
use Rattle.std.specs.Prelude.{◌≡◌, ℕ, ◌<◌, ◌≤◌, List, Contains, map, string_bytes}
use Rattle.guppy_data.specs.declared.records.PackageRecord.{PackageRecord}
use Rattle.guppy_data.specs.declared.texts.error.Error.TheVariants.{UnknownPackageId}
use Rattle.guppy_process.specs.declared.fault.Fault.TheVariants.{Library}
use Rattle.guppy_arguments.specs.Names.{name_of}
use Rattle.guppy_arguments.specs.Nearest.{edits}
use Rattle.guppy_arguments.specs.declared.fault.CargoFault.{CargoFault}
use Rattle.guppy_arguments.specs.declared.fault.CargoFault.TheVariants.{Program, Unknown}

-- more than three edits lead to the name of each package
abbrev pub IsFarFromNames : List PackageRecord → List ℕ → Type 0
IsFarFromNames packages word = (name : List ℕ) → Contains (map name_of packages) name → 3 < edits word name

-- at most three edits lead to the name of a package, and no fewer to that of another
pub record IsNearestName (packages : List PackageRecord) (word near : List ℕ) : Type 0 where
  pub one : Contains (map name_of packages) near
  pub close : edits word near ≤ 3
  pub least : (name : List ℕ) → Contains (map name_of packages) name → edits word near ≤ edits word name

-- the fault tells the word, with the nearest of the packages' names where one is near
abbrev pub TellsUnknown : List PackageRecord → List ℕ → CargoFault → Type 0
TellsUnknown packages word (Unknown given nearest) =
    (string_bytes given ≡ word) × IsNearestName packages word (string_bytes nearest)
TellsUnknown packages word (Program (Library (UnknownPackageId id))) =
    (id ≡ word) × IsFarFromNames packages word
TellsUnknown packages word _ = ⊥
