-- Names among the keys of a map.
use Rattle.std.proofs.Common.{◌≡◌, ◌∙◌, ◌↔◌, sym, refl, ℕ, Bool, true, IsTrue, List, map}
use Rattle.std.specs.declared.string.String.{String}
use Rattle.std.specs.declared.alloc.Global.{Global}
use Rattle.std.specs.List.{Contains, list_any}
use Rattle.std.specs.Map.{lookup, keys_of}
use Rattle.std.specs.Option.{is_some}
use Rattle.std.specs.Str.{bytes_eq}
use Rattle.std.specs.String.{string_bytes}
use Rattle.std.proofs.lemmas.List.Folds.{Any-from_list_any, list_any-from_Any}
use Rattle.std.proofs.lemmas.Map.Made.{is_some-lookup}
use Rattle.std.proofs.lemmas.Slice.Eq.{bytes_eq-Decides}
use Rattle.guppy_data.proofs.ListedNames.{list_any-map}

-- a text that is equal to one of the list is in the list
pub Contains-from_list_any : (texts : List (List ℕ)) (text : List ℕ) → list_any (bytes_eq text) texts ≡ true → Contains texts text
Contains-from_list_any texts text found =
    let any = Any-from_list_any (bytes_eq text) texts found in
    let same : text ≡ any.1 = (bytes_eq-Decides text any.1).0 any.4 in
    (any.0, any.2, (cc))

-- a text of the list is equal to one of the list
pub list_any-from_Contains : (texts : List (List ℕ)) (text : List ℕ) → Contains texts text → list_any (bytes_eq text) texts ≡ true
list_any-from_Contains texts text at =
    list_any-from_Any (bytes_eq text) texts (at.0, text, at.1, at.2, (bytes_eq-Decides text text).1 refl)

-- a look-up by a text tells whether it is the text of a key
pub lookup-tells_Contains : {X : Type 0} (entries : List (String Global × X)) (text : List ℕ) (found : Bool) → found ≡ is_some (lookup (λ key. bytes_eq text (string_bytes key)) entries) → IsTrue found ↔ Contains (map string_bytes (keys_of entries)) text
lookup-tells_Contains entries text found is =
    let among : found ≡ list_any (bytes_eq text) (map string_bytes (keys_of entries)) = is ∙ is_some-lookup _ entries ∙ sym (list_any-map (bytes_eq text) string_bytes (keys_of entries)) in (
      λ yes_. Contains-from_list_any (map string_bytes (keys_of entries)) text (sym among ∙ yes_),
      λ at. among ∙ list_any-from_Contains (map string_bytes (keys_of entries)) text at,
    )
