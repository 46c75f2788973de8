-- Lemmas on names in a list.
use Rattle.std.proofs.Common.{◌≡◌, ◌∙◌, ◌↔◌, sym, ap, refl, ℕ, Bool, true, ◌||◌, IsTrue, List, [], ◌∷◌, map}
use Rattle.std.specs.List.{Contains, list_any}
use Rattle.std.specs.Str.{bytes_eq}
use Rattle.std.proofs.lemmas.List.Folds.{Any-from_list_any, list_any-from_Any}
use Rattle.std.proofs.lemmas.Slice.Eq.{bytes_eq-Decides}

-- a test of what is read of each element
pub list_any-map : {A X : Type 0} (test : X → Bool) (read : A → X) (xs : List A) → list_any test (map read xs) ≡ list_any (λ x. test (read x)) xs
list_any-map test read [] = refl
list_any-map test read (x ∷ xs) = ap (λ rest. test (read x) || rest) (list_any-map test read xs)

-- a text that one of the list equals is in the list
Contains-from_list_any : (texts : List (List ℕ)) (text : List ℕ) → list_any (λ other. bytes_eq other text) texts ≡ true → Contains texts text
Contains-from_list_any texts text found =
    let any = Any-from_list_any (λ other. bytes_eq other text) texts found in
    let same : any.1 ≡ text = (bytes_eq-Decides any.1 text).0 any.4 in
    (any.0, any.2, (cc))

-- a text in the list is equal to one of the list
list_any-from_Contains : (texts : List (List ℕ)) (text : List ℕ) → Contains texts text → list_any (λ other. bytes_eq other text) texts ≡ true
list_any-from_Contains texts text at =
    list_any-from_Any (λ other. bytes_eq other text) texts (at.0, text, at.1, at.2, (bytes_eq-Decides text text).1 refl)

-- a search through the texts that are read of the elements tells whether a text is among them
pub search-tells_Contains : {A : Type 0} (read : A → List ℕ) (xs : List A) (text : List ℕ) (found : Bool) → found ≡ list_any (λ x. bytes_eq (read x) text) xs → IsTrue found ↔ Contains (map read xs) text
search-tells_Contains read xs text found is =
    let among : found ≡ list_any (λ other. bytes_eq other text) (map read xs) = is ∙ sym (list_any-map (λ other. bytes_eq other text) read xs) in
    ((λ yes. Contains-from_list_any (map read xs) text (sym among ∙ yes)), (λ at. among ∙ list_any-from_Contains (map read xs) text at))
