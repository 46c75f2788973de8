-- The copy of a JSON value that owns its texts.
use Rattle.std.specs.Prelude.{◌≡◌, Some, None}
use Rattle.json.specs.Json.{Json}
use Rattle.serde_json.specs.Data.{Data}
use Rattle.serde_json.specs.Read.{of_json}

-- the copy is what reading the value's text gives
abbrev pub IsTable : Json → Data → Type 0
IsTable json table = of_json json ≡ Some table

-- no copy holds the value, as one of its numbers is too large for a float
abbrev pub HasNoTable : Json → Type 0
HasNoTable json = of_json json ≡ None
