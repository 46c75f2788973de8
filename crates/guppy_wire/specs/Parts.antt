-- Parts of a text that tell how long they are, so any bytes may stand in them.
use Rattle.std.specs.Prelude.{ℕ, Bool, true, false, List, ◌++◌, length, codes, Option, None, Some, String, string_bytes}
use Rattle.std.specs.declared.alloc.Global.{Global}
use Rattle.std.specs.Fmt.{decimal}
use Rattle.std.specs.List.{flat_map}
use Rattle.semver.specs.declared.Version.{Version}
use Rattle.semver.specs.Identifiers.{version_text}

-- its length, a colon, and the text, as `4:core`
abbrev pub field : List ℕ → List ℕ
field text = decimal (length text) ++ codes ":" ++ text

abbrev pub string_field : String Global → List ℕ
string_field text = field (string_bytes text)

abbrev pub version_field : Version → List ℕ
version_field version = field (version_text version)

-- `-` where there is none
abbrev pub optional : {A : Type 0} → (A → List ℕ) → Option A → List ℕ
optional text_of None = codes "-"
optional text_of (Some item) = text_of item

-- how many there are, a semicolon, and each
abbrev pub listed : {A : Type 0} → (A → List ℕ) → List A → List ℕ
listed text_of items = decimal (length items) ++ codes ";" ++ flat_map text_of items

-- `y` or `n`
abbrev pub yes_or_no : Bool → List ℕ
yes_or_no true = codes "y"
yes_or_no false = codes "n"
