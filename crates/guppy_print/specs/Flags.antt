-- Packages as flags, as cargo takes them.
use Rattle.std.specs.Prelude.{ℕ, List, ◌++◌, Option, codes, if◌then◌else◌}
use Rattle.std.specs.List.{find}
use Rattle.std.specs.Option.{option_map_or}
use Rattle.std.specs.Str.{bytes_eq}
use Rattle.guppy_data.specs.declared.records.PackageRecord.{PackageRecord}
use Rattle.guppy_command.specs.declared.options.Options.{Options}
use Rattle.guppy_command.specs.Ids.{full_name_of, is_only}
use Rattle.guppy_print.specs.Format.{Format}

-- the package with the ID
abbrev pub record_of : List PackageRecord → List ℕ → Option PackageRecord
record_of packages id = find (λ r. bytes_eq id r.id) packages

-- by what cargo knows the package with the ID: `name@version`, where that means it alone, or else its ID
abbrev pub spec_of : (List ℕ → List (List ℕ)) → List PackageRecord → List ℕ → List ℕ
spec_of meant packages id = option_map_or
    (λ r. if is_only id (meant (full_name_of r)) then full_name_of r else id) (record_of packages id) id

-- the flag of the package with the ID, by its ID where the options call it so
abbrev pub flag_of : {Fault : Type 0} → Format Fault → Options → List PackageRecord → List ℕ → List ℕ
flag_of format options packages id = codes "--package="
    ++ (if options.by_id then id else spec_of (format.meant packages) packages id)
