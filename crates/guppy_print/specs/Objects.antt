-- Packages, links and walks as JSON.
use Rattle.std.specs.Prelude.{ℕ, List, [], ◌∷◌, map, codes, string_bytes}
use Rattle.std.specs.Option.{option_map_or}
use Rattle.json.specs.Json.{Json, null, string, array, object, no_members, member}
use Rattle.json.specs.Print.{print}
use Rattle.json.specs.Tree.{json_tokens}
use Rattle.json.specs.Value.{items_of}
use Rattle.semver.specs.Identifiers.{version_text}
use Rattle.guppy_data.specs.declared.records.PackageRecord.{PackageRecord}
use Rattle.guppy_command.specs.declared.options.Kinds.{Kinds}
use Rattle.guppy_command.specs.Printed.{kind_names}
use Rattle.guppy_print.specs.Flags.{record_of}

-- the text of the value, with no space and the shortest escapes
abbrev pub json_text : Json → List ℕ
json_text value = print (json_tokens value)

-- the values of these, as an array
abbrev pub array_of : {X : Type 0} → (X → Json) → List X → Json
array_of value items = array (items_of (map value items))

-- the package: its name, its version, its ID and the path of its manifest
abbrev pub object_of : PackageRecord → Json
object_of r = object
    (member (codes "name") (string (string_bytes r.name))
    (member (codes "version") (string (version_text r.version))
    (member (codes "id") (string r.id)
    (member (codes "manifest_path") (string r.manifest_path) no_members))))

-- the package with the ID
abbrev pub package_object : List PackageRecord → List ℕ → Json
package_object packages id = option_map_or object_of (record_of packages id) null

-- the packages with these IDs
abbrev pub packages_array : List PackageRecord → List (List ℕ) → Json
packages_array packages ids = array_of (package_object packages) ids

-- the names of the kinds
abbrev pub kinds_array : Kinds → Json
kinds_array kinds = array_of string (kind_names kinds)

-- the link: the packages that it goes from and to, and the kinds of its sections
abbrev pub link_object : List PackageRecord → List ℕ × List ℕ × Kinds → Json
link_object packages link = object
    (member (codes "from") (package_object packages link.0)
    (member (codes "to") (package_object packages link.1)
    (member (codes "sections") (kinds_array link.2) no_members)))

-- the package of a walk, and the kinds of the sections of the link that leads to it
abbrev pub step_object : List PackageRecord → List ℕ × Kinds → Json
step_object packages step = object
    (member (codes "package") (package_object packages step.0)
    (member (codes "sections") (kinds_array step.1) no_members))

-- the first package, and those behind it, which need it
abbrev pub needs_object : List PackageRecord → List (List ℕ) → Json
needs_object packages [] = null
needs_object packages (id ∷ needed_by) = object
    (member (codes "package") (package_object packages id)
    (member (codes "needed_by") (packages_array packages needed_by) no_members))
