-- What is written as JSON.
use Rattle.std.proofs.Common.{◌≡◌, ◌∙◌, sym, ap, ℕ, List, [], ◌∷◌, ◌++◌, length, refl, append_assoc, codes, string_bytes, Some, None}
use Rattle.std.specs.Prelude.{Option, IsSomeAnd, slice_get}
use Rattle.std.specs.List.{flat_map}
use Rattle.std.specs.Option.{option_map_or}
use Rattle.json.specs.Token.{Token, begin_array, end_array, begin_object, key, null as null_token}
use Rattle.json.specs.Json.{Json, Members, array, object, string, null, no_members, member}
use Rattle.json.specs.Tree.{json_tokens, items_tokens, members_tokens}
use Rattle.json.specs.Value.{items_of}
use Rattle.semver.specs.declared.Version.{Version}
use Rattle.semver.specs.Identifiers.{version_text}
use Rattle.guppy_data.specs.declared.records.PackageRecord.{PackageRecord}
use Rattle.guppy_graph.specs.Ids.{HasId, IsKnown, DistinctBelow}
use Rattle.guppy_print.specs.Objects.{object_of, package_object}
use Rattle.guppy_print.proofs.FlaggedPackages.{found_at, not_found}

-- what is written for an object, behind what was there
pub object_written : (before : List Token) (members : Members) → (before ++ begin_object ∷ []) ++ members_tokens members ≡ before ++ json_tokens (object members)
object_written before members = append_assoc before (begin_object ∷ []) (members_tokens members)

-- what is written for a member of one
pub member_written : (before : List Token) (name : List ℕ) (value : Json) (more : Members) → ((before ++ key name ∷ []) ++ json_tokens value) ++ members_tokens more ≡ before ++ members_tokens (member name value more)
member_written before name value more =
    append_assoc (before ++ key name ∷ []) (json_tokens value) (members_tokens more)
    ∙ append_assoc before (key name ∷ []) (json_tokens value ++ members_tokens more)

-- the text of a package's version
pub version_told : (o : Option PackageRecord) (version : Version) → IsSomeAnd o (λ r. version ≡ r.version) → (text : List ℕ) → text ≡ version_text version → IsSomeAnd o (λ r. text ≡ version_text r.version)
version_told None version is text told = absurd is
version_told (Some r) version is text told = told ∙ ap version_text is

-- the object of these texts
abbrev pub object_told : List ℕ → List ℕ → List ℕ → List ℕ → Json
object_told name version id path = object
    (member (codes "name") (string name)
    (member (codes "version") (string version)
    (member (codes "id") (string id)
    (member (codes "manifest_path") (string path) no_members))))

-- what is written for a package is its object
pub package_written : (o : Option PackageRecord) (name version id path : List ℕ) → IsSomeAnd o (λ r. name ≡ string_bytes r.name) → IsSomeAnd o (λ r. version ≡ version_text r.version) → IsSomeAnd o (λ r. id ≡ r.id) → IsSomeAnd o (λ r. path ≡ r.manifest_path)
    → (before after : List Token) → after ≡ before ++ json_tokens (object_told name version id path)
    → IsSomeAnd o (λ r. after ≡ before ++ json_tokens (object_of r))
package_written None name version id path n v i p before after told = absurd n
package_written (Some r) name version id path n v i p before after told = told ∙ rw (n, v, i, p) refl

of_record : (o : Option PackageRecord) (before after : List Token) → IsSomeAnd o (λ r. after ≡ before ++ json_tokens (object_of r)) → after ≡ before ++ json_tokens (option_map_or object_of o null)
of_record None before after told = absurd told
of_record (Some r) before after told = told

-- the object of the one package with the ID
pub known_written : (packages : List PackageRecord) → DistinctBelow packages (length packages) → (id : List ℕ) (p : ℕ) → HasId packages id p
    → (before after : List Token) → IsSomeAnd (slice_get packages p) (λ r. after ≡ before ++ json_tokens (object_of r)) → after ≡ before ++ json_tokens (package_object packages id)
known_written packages distinct id p has before after told = rw (found_at packages distinct id p has) (of_record (slice_get packages p) before after told)

-- null, where no package has the ID
pub unknown_written : (packages : List PackageRecord) (id : List ℕ) → (IsKnown packages id → ⊥) → (before after : List Token) → after ≡ before ++ null_token ∷ [] → after ≡ before ++ json_tokens (package_object packages id)
unknown_written packages id unknown before after told = rw (not_found packages id unknown) told

-- the items of an array, one after another
items_in_turn : (values : List Json) → items_tokens (items_of values) ≡ flat_map json_tokens values ++ end_array ∷ []
items_in_turn [] = refl
items_in_turn (value ∷ values) = ap (λ l. json_tokens value ++ l) (items_in_turn values) ∙ sym (append_assoc (json_tokens value) (flat_map json_tokens values) (end_array ∷ []))

-- what is written for an array, behind what was there
pub array_written : (before : List Token) (values : List Json) → ((before ++ begin_array ∷ []) ++ flat_map json_tokens values) ++ end_array ∷ [] ≡ before ++ json_tokens (array (items_of values))
array_written before values =
    append_assoc (before ++ begin_array ∷ []) (flat_map json_tokens values) (end_array ∷ [])
    ∙ append_assoc before (begin_array ∷ []) (flat_map json_tokens values ++ end_array ∷ [])
    ∙ ap (λ l. before ++ begin_array ∷ l) (sym (items_in_turn values))
