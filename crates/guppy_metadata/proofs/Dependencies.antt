-- The names of optional dependencies, gathered one by one.
use Rattle.std.proofs.Common.{◌≡◌, ◌∙◌, ℕ, ◌+◌, ◌<◌, Bool, true, false, List, [], ◌∷◌, ◌++◌, map, take, length, get_or, String, Some, None, refl, sym, ap, if◌then◌else◌}
use Rattle.std.specs.declared.alloc.Global.{Global}
use Rattle.std.specs.List.{filter_map, cons_option, list_any}
use Rattle.std.specs.Str.{bytes_eq}
use Rattle.std.specs.String.{string_bytes, string_eq}
use Rattle.std.proofs.lemmas.List.{map_push}
use Rattle.std.proofs.lemmas.List.Elements.{filter_map-append}
use Rattle.std.proofs.lemmas.List.Sums.{fold-append}
use Rattle.indexmap.specs.IndexSet.{insert_key, insert_all}
use Rattle.guppy_data.proofs.ListedNames.{list_any-map}
use Rattle.guppy_metadata.specs.Dependency.{manifest_name, optional_name}
use Rattle.guppy_metadata.specs.declared.types.Declared.{Declared}
use Rattle.guppy_metadata.proofs.FittingLists.{take_with}

-- what is read of texts after one is put among them
inserted : (keys : List (String Global)) (own : String Global) → map string_bytes (insert_key string_eq keys own) ≡ insert_key bytes_eq (map string_bytes keys) (string_bytes own)
inserted keys own = by (list_any (string_eq own) keys) refl
  where
    by : (there : Bool) → list_any (string_eq own) keys ≡ there → map string_bytes (insert_key string_eq keys own) ≡ insert_key bytes_eq (map string_bytes keys) (string_bytes own)
    by true there =
        ap (λ b. map string_bytes (if b then keys else keys ++ own ∷ [])) there
        ∙ sym (ap (λ b. if b then map string_bytes keys else map string_bytes keys ++ string_bytes own ∷ []) (list_any-map (bytes_eq (string_bytes own)) string_bytes keys ∙ there))
    by false there =
        ap (λ b. map string_bytes (if b then keys else keys ++ own ∷ [])) there ∙ (map_push string_bytes keys own
        ∙ sym (ap (λ b. if b then map string_bytes keys else map string_bytes keys ++ string_bytes own ∷ []) (list_any-map (bytes_eq (string_bytes own)) string_bytes keys ∙ there)))

-- the names of the first dependencies, and of one more
names_of_more : (declared : List Declared) (k : ℕ) (x other : Declared) → k < length declared → x ≡ get_or declared k other
    → insert_all bytes_eq [] (filter_map optional_name (take (k + 1) declared)) ≡ insert_all bytes_eq (insert_all bytes_eq [] (filter_map optional_name (take k declared))) (cons_option (optional_name x) [])
names_of_more declared k x other low is =
    ap (λ l. insert_all bytes_eq [] (filter_map optional_name l)) (take_with declared k x other low is)
    ∙ (ap (insert_all bytes_eq []) (filter_map-append optional_name (take k declared) (x ∷ [])) ∙ fold-append (insert_key bytes_eq) [] (filter_map optional_name (take k declared)) (cons_option (optional_name x) []))

-- an optional one adds its name
pub optional_more : (declared : List Declared) (k : ℕ) (x other : Declared) (keys : List (String Global)) (own : String Global) → k < length declared → x ≡ get_or declared k other → x.optional ≡ true
    → string_bytes own ≡ manifest_name x → map string_bytes keys ≡ insert_all bytes_eq [] (filter_map optional_name (take k declared))
    → map string_bytes (insert_key string_eq keys own) ≡ insert_all bytes_eq [] (filter_map optional_name (take (k + 1) declared))
optional_more declared k x other keys own low is optional own_is were =
    let before = insert_all bytes_eq [] (filter_map optional_name (take k declared)) in
    inserted keys own ∙ (ap (λ l. insert_key bytes_eq l (string_bytes own)) were ∙ (ap (insert_key bytes_eq before) own_is
    ∙ sym (names_of_more declared k x other low is ∙ ap (λ b. insert_all bytes_eq before (cons_option (if b then Some (manifest_name x) else None) [])) optional)))

-- one that isn't adds none
pub required_more : (declared : List Declared) (k : ℕ) (x other : Declared) (texts : List (List ℕ)) → k < length declared → x ≡ get_or declared k other → x.optional ≡ false
    → texts ≡ insert_all bytes_eq [] (filter_map optional_name (take k declared)) → texts ≡ insert_all bytes_eq [] (filter_map optional_name (take (k + 1) declared))
required_more declared k x other texts low is optional were =
    let before = insert_all bytes_eq [] (filter_map optional_name (take k declared)) in
    were ∙ sym (names_of_more declared k x other low is ∙ ap (λ b. insert_all bytes_eq before (cons_option (if b then Some (manifest_name x) else None) [])) optional)
