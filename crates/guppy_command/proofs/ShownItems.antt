-- What is found among items, by what they are seen as.
use Rattle.std.proofs.Common.{◌≡◌, refl, ap, List, [], ◌∷◌, Bool, inl, inr, map, option_map, Option, Some, None, IfSome}
use Rattle.std.specs.List.{find, zip}
use Rattle.std.proofs.lemmas.Bool.{cases_Bool}

pub find-map : {A B : Type 0} (test : B → Bool) (seen : A → B) (xs : List A) → find test (map seen xs) ≡ option_map seen (find (λ x. test (seen x)) xs)
find-map test seen [] = refl
find-map test seen (x ∷ xs) = elim (cases_Bool (test (seen x))) [
  | inl is ↦ rw is refl
  | inr not ↦ rw not (find-map test seen xs)
]

pub option_map-twice : {A B C : Type 0} (f : A → B) (g : B → C) (o : Option A) → option_map (λ x. g (f x)) o ≡ option_map g (option_map f o)
option_map-twice f g None = refl
option_map-twice f g (Some x) = refl

-- what holds of each value, of the one that is there
pub IfSome-from : {A : Type 0} (o : Option A) (P Q : A → Type 0) → IfSome o P → ((x : A) → P x → Q x) → IfSome o Q
IfSome-from None P Q holds from = tt
IfSome-from (Some x) P Q holds from = from x holds

-- pairs of what items are seen as
pub zip-map : {A B C D : Type 0} (f : A → B) (g : C → D) (xs : List A) (ys : List C) → map {B = B × D} (λ pair. (f pair.0, g pair.1)) (zip xs ys) ≡ zip (map f xs) (map g ys)
zip-map f g [] ys = refl
zip-map f g (x ∷ xs) [] = refl
zip-map f g (x ∷ xs) (y ∷ ys) = ap (λ pairs. (f x, g y) ∷ pairs) (zip-map f g xs ys)
