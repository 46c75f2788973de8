-- Where a thing is enabled as a required one, and where as an optional one.
use Rattle.std.specs.Prelude.{◌≡◌}
use Rattle.guppy_data.specs.declared.views.enabled_status.EnabledStatus.{EnabledStatus}
use Rattle.guppy_data.specs.Platform.{Status, Never, seen_status}

-- the status of what is required
abbrev pub required_of : EnabledStatus → Status
required_of status = seen_status status.required

-- the status of what is optional
abbrev pub optional_of : EnabledStatus → Status
optional_of status = seen_status status.optional

-- enabled on no platform, neither as required nor as optional
abbrev pub IsNowhere : EnabledStatus → Type 0
IsNowhere status = (required_of status ≡ Never) × (optional_of status ≡ Never)
