-- Links that are there for development alone.
use Rattle.std.specs.Prelude.{Bool, true, false, ◌&&◌}
use Rattle.guppy_data.specs.Platform.{Status, Never, Always, Dependent, recorded_status}
use Rattle.guppy_data.specs.declared.records.DependencyReqImpl.{DependencyReqImpl}
use Rattle.guppy_data.specs.declared.records.LinkRecord.{LinkRecord}

abbrev pub is_never : Status → Bool
is_never Never = true
is_never Always = false
is_never (Dependent texts) = false

-- neither the required nor the optional part of the section has a status other than never
abbrev pub is_absent : DependencyReqImpl → Bool
is_absent section = is_never (recorded_status section.required.build_if) && is_never
    (recorded_status section.optional.build_if)

-- neither the normal nor the build section has a status other than never, also where no section has
abbrev pub is_dev_only : LinkRecord → Bool
is_dev_only r = is_absent r.normal && is_absent r.build
