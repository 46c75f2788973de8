-- What the sections of a link say of platforms.
use Rattle.std.specs.Prelude.{ℕ, List, Bool, Option}
use Rattle.guppy_data.specs.declared.platform.ternary.EnabledTernary.{EnabledTernary}
use Rattle.guppy_data.specs.declared.records.DependencyReqImpl.{DependencyReqImpl}
use Rattle.guppy_data.specs.Platform.{Question, recorded_status, status_value}
use Rattle.guppy_data.specs.Ternary.{greater}

-- whether the section asks for the dependency, as a required or as an optional one, on the platforms in question
abbrev pub section_value : {P : Type 0} → (List ℕ → P → Option Bool) → Question P → DependencyReqImpl
    → EnabledTernary
section_value answer question section =
    greater (status_value answer (recorded_status section.required.build_if) question)
    (status_value answer (recorded_status section.optional.build_if) question)
