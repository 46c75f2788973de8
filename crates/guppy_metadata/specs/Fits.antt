-- Which of the declared dependencies were resolved to one.
use Rattle.std.specs.Prelude.{◌==◌, ◌&&◌, ◌||◌, ℕ, Bool, if◌then◌else◌, List, filter, length, map, option_map, unwrap_or, string_bytes}
use Rattle.std.specs.Cmp.Lexicographic.{pointwise}
use Rattle.std.specs.List.{list_any, list_all}
use Rattle.std.specs.Option.{option_copied, option_eq}
use Rattle.std.specs.Str.{byte, bytes_eq}
use Rattle.semver.specs.Eval.{matches_all}
use Rattle.semver.specs.declared.Version.{Version}
use Rattle.semver.specs.declared.VersionReq.{VersionReq}
use Rattle.guppy_metadata.specs.declared.types.Declared.{Declared}
use Rattle.guppy_metadata.specs.declared.types.Resolved.{Resolved}
use Rattle.guppy_metadata.specs.declared.types.Usage.{Usage}
use Rattle.guppy_metadata.specs.declared.types.Package.{Package}
use Rattle.guppy_metadata.specs.Gathered.{same_section}

-- a letter of a name stands for itself in the code, and `-` for `_` too
abbrev pub stands_for : ℕ → ℕ → Bool
stands_for letter in_code = (letter == in_code) || ((letter == byte "-") && (in_code == byte "_"))

abbrev pub is_named : List ℕ → List ℕ → Bool
is_named name in_code = pointwise stands_for name in_code

-- a name as it is in the code
abbrev pub letter_in_code : ℕ → ℕ
letter_in_code letter = if letter == byte "-" then byte "_" else letter

abbrev pub in_code : List ℕ → List ℕ
in_code name = map letter_in_code name

-- the name by which the code uses a dependency on a package: the one that it is given, else that of the package's
-- library, and that of the package where it has none
abbrev pub used_name : Declared → Package → List ℕ
used_name x needed = unwrap_or (option_copied x.rename) (unwrap_or (option_map string_bytes needed.library) x.name.now)

-- whether a dependency on the package has this name in the code; one on what is no library has none there
abbrev pub has_name : Declared → Package → List ℕ → Bool
has_name x needed in_code = (length in_code == 0) || is_named (used_name x needed) in_code

-- whether a requirement takes the version: `*`, which has no comparator, takes each one
abbrev pub takes : VersionReq → Version → Bool
takes req version = (length req.comparators.items == 0) || matches_all req.comparators.items version

-- whether a usage is in the section and on the platforms of the dependency
abbrev pub same_usage : Declared → Usage → Bool
same_usage x usage = same_section usage.section x.section && option_eq bytes_eq (option_copied usage.target) (option_copied x.target)

-- whether one of the usages is
abbrev pub is_used : Declared → List Usage → Bool
is_used x usages = list_any (same_usage x) usages

-- whether a dependency that the package `asking` declares is one on the needed package, but for the version: it has its
-- name, in the code too where it isn't on `asking` itself, and is used
abbrev pub suits : Package → Resolved → Package → Declared → Bool
suits asking resolved needed x =
    bytes_eq x.name.now (string_bytes needed.record.name)
    && (bytes_eq asking.id.now resolved.id.now || has_name x needed resolved.name.now)
    && is_used x resolved.usages.items

-- whether two dependencies are of one section and for the same platforms
abbrev pub are_together : Declared → Declared → Bool
are_together x y = same_section x.section y.section && option_eq bytes_eq (option_copied x.target) (option_copied y.target)

-- whether of its section and platforms it alone suits
abbrev pub is_alone : Package → Resolved → Package → Declared → Bool
is_alone asking resolved needed x =
    length (filter (λ y. are_together y x && suits asking resolved needed y) asking.declared.items) == 1

-- whether what the package `asking` declares was resolved to the needed package: it suits, and takes its version or
-- suits alone
abbrev pub fits : Package → Resolved → Package → Declared → Bool
fits asking resolved needed x =
    suits asking resolved needed x && (takes x.requirement needed.record.version || is_alone asking resolved needed x)

-- whether the usage is that of one of the dependencies that were resolved so
abbrev pub is_matched : Package → Resolved → Package → List Declared → Usage → Bool
is_matched asking resolved needed declared usage =
    list_any (λ x. same_usage x usage && fits asking resolved needed x) declared

-- whether each of these usages is
abbrev pub are_matched : Package → Resolved → Package → List Declared → List Usage → Bool
are_matched asking resolved needed declared usages =
    list_all (is_matched asking resolved needed declared) usages
