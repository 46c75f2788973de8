-- Which IDs are those of packages.
use Rattle.std.proofs.Common.{◌≡◌, ◌∙◌, ℕ, Bool, true, false, ◌||◌, List, [], ◌∷◌, map, filter, Option, None, Some, refl, sym, ap}
use Rattle.std.specs.Borrow.{Bor}
use Rattle.std.specs.List.{last_or, list_any}
use Rattle.std.specs.Option.{option_copied}
use Rattle.std.specs.Prelude.{is_some}
use Rattle.std.specs.Str.{bytes_eq}
use Rattle.std.proofs.Math.Bool.{or-true, or-false}
use Rattle.std.proofs.lemmas.Bool.Decides.{same_from_decides}
use Rattle.std.proofs.lemmas.Slice.Eq.{bytes_eq-Decides}
use Rattle.guppy_metadata.specs.declared.types.Package.{Package}
use Rattle.guppy_metadata.specs.Members.{is_among}
use Rattle.guppy_metadata.specs.Package.{with_id}

bytes_swapped : (a b : List ℕ) → bytes_eq a b ≡ bytes_eq b a
bytes_swapped a b =
    let back = bytes_eq-Decides b a in
    same_from_decides (bytes_eq a b) (bytes_eq b a) (bytes_eq-Decides a b) ((λ same. sym (back.0 same)), λ is. back.1 (sym is))

-- there is a last one of those that a test picks where it picks any
last_found : {A : Type 0} (p : A → Bool) (o : Option A) (xs : List A) → is_some (last_or o (filter p xs)) ≡ (is_some o || list_any p xs)
last_found p o [] = sym (or-false (is_some o))
last_found p o (x ∷ xs) = by (p x) refl (last_found p (Some x) xs) (last_found p o xs)
  where
    by : (picks : Bool) → p x ≡ picks → is_some (last_or (Some x) (filter p xs)) ≡ true → is_some (last_or o (filter p xs)) ≡ (is_some o || list_any p xs) → is_some (last_or o (filter p (x ∷ xs))) ≡ (is_some o || list_any p (x ∷ xs))
    by true picks here there = rw picks (here ∙ sym (or-true (is_some o)))
    by false picks here there = rw picks there

named_alike : (id : List ℕ) (packages : List Package) → list_any (λ p. bytes_eq p.id.now id) packages ≡ is_among (map (λ p. p.id.now) packages) id
named_alike id [] = refl
named_alike id (p ∷ packages) = rw (bytes_swapped p.id.now id, named_alike id packages) refl

some_copied : {A : Type 0} (o : Option (Bor A)) → is_some (option_copied o) ≡ is_some o
some_copied None = refl
some_copied (Some b) = refl

-- a package has this ID where it is one of the packages' IDs
known_by_id : (id : List ℕ) (packages : List Package) → is_some (with_id id packages) ≡ is_among (map (λ p. p.id.now) packages) id
known_by_id id packages = last_found (λ p. bytes_eq p.id.now id) None packages ∙ named_alike id packages

-- whether the package that was looked up is there says whether the ID is known
pub known_at : (id : List ℕ) (packages : List Package) (found : Option (Bor Package)) (is : Bool) → option_copied found ≡ with_id id packages → is_some found ≡ is
    → is_among (map (λ p. p.id.now) packages) id ≡ is
known_at id packages found is same there = sym (known_by_id id packages) ∙ (ap is_some (sym same) ∙ (some_copied found ∙ there))
