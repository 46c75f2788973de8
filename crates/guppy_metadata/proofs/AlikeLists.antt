-- Lists whose items are alike, place by place.
use Rattle.std.proofs.Common.{◌≡◌, ◌∙◌, suc, Bool, true, false, ◌&&◌, ◌||◌, List, [], ◌∷◌, ◌++◌, Option, Some, None, IsSomeAnd, filter, map, length, refl, sym, ap, subst}
use Rattle.std.specs.List.{AllZip, flat_map, last_or, list_any, list_all}
use Rattle.json.specs.Json.{Json}
use Rattle.guppy_metadata.specs.Members.{IsListOf}
use Rattle.guppy_metadata.proofs.OnceTold.{items_once}

-- what fits the same items is alike
both_fit : {J A B : Type 0} (P : J → A → Type 0) (Q : J → B → Type 0) (R : A → B → Type 0) → ((j : J) (x : A) (y : B) → P j x → Q j y → R x y)
    → (js : List J) (xs : List A) (ys : List B) → AllZip P js xs → AllZip Q js ys → AllZip R xs ys
both_fit P Q R alike [] [] [] one other = tt
both_fit P Q R alike [] [] (y ∷ ys) one other = absurd other
both_fit P Q R alike [] (x ∷ xs) ys one other = absurd one
both_fit P Q R alike (j ∷ js) [] ys one other = absurd one
both_fit P Q R alike (j ∷ js) (x ∷ xs) [] one other = absurd other
both_fit P Q R alike (j ∷ js) (x ∷ xs) (y ∷ ys) one other = (alike j x y one.0 other.0, both_fit P Q R alike js xs ys one.1 other.1)

-- what is read of one list is alike
pub lists_fit : {A B : Type 0} (P : Json → A → Type 0) (Q : Json → B → Type 0) (R : A → B → Type 0) → ((j : Json) (x : A) (y : B) → P j x → Q j y → R x y)
    → (told : Option Json) (xs : List A) (ys : List B) → IsSomeAnd told (λ list. IsListOf P list xs) → IsSomeAnd told (λ list. IsListOf Q list ys) → AllZip R xs ys
lists_fit P Q R alike None xs ys one other = absurd one
lists_fit P Q R alike (Some list) xs ys one other =
    both_fit P Q R alike one.0 xs ys one.2 (subst (λ js. AllZip Q js ys) (items_once other.0 one.0 (sym other.1 ∙ one.1)) other.2)

-- what fits fits in another way too
pub fits_too : {A B : Type 0} (P Q : A → B → Type 0) → ((x : A) (y : B) → P x y → Q x y) → (xs : List A) (ys : List B) → AllZip P xs ys → AllZip Q xs ys
fits_too P Q implies [] [] all = tt
fits_too P Q implies [] (y ∷ ys) all = absurd all
fits_too P Q implies (x ∷ xs) [] all = absurd all
fits_too P Q implies (x ∷ xs) (y ∷ ys) all = (implies x y all.0, fits_too P Q implies xs ys all.1)

-- what fits fits the other way round
pub turned : {A B : Type 0} (P : A → B → Type 0) (Q : B → A → Type 0) → ((x : A) (y : B) → P x y → Q y x) → (xs : List A) (ys : List B) → AllZip P xs ys → AllZip Q ys xs
turned P Q implies [] [] all = tt
turned P Q implies [] (y ∷ ys) all = absurd all
turned P Q implies (x ∷ xs) [] all = absurd all
turned P Q implies (x ∷ xs) (y ∷ ys) all = (implies x y all.0, turned P Q implies xs ys all.1)

-- what is alike to itself
pub each_itself : {A : Type 0} (R : A → A → Type 0) → ((x : A) → R x x) → (xs : List A) → AllZip R xs xs
each_itself R itself [] = tt
each_itself R itself (x ∷ xs) = (itself x, each_itself R itself xs)

-- where the one is there the other is too, and is alike
abbrev pub OptionsFit : {A B : Type 0} → (A → B → Type 0) → Option A → Option B → Type 0
OptionsFit R None None = Unit {0}
OptionsFit R None (Some y) = ⊥
OptionsFit R (Some x) None = ⊥
OptionsFit R (Some x) (Some y) = R x y

module _ {A B : Type 0} (R : A → B → Type 0) where
  -- what a function makes of them is the same where it is so of each
  module _ {C : Type 0} (f : A → C) (g : B → C) (same : (x : A) (y : B) → R x y → f x ≡ g y) where
    pub made_alike : (xs : List A) (ys : List B) → AllZip R xs ys → map f xs ≡ map g ys
    made_alike [] [] all = refl
    made_alike [] (y ∷ ys) all = absurd all
    made_alike (x ∷ xs) [] all = absurd all
    made_alike (x ∷ xs) (y ∷ ys) all = ap (λ c. c ∷ map f xs) (same x y all.0) ∙ ap (λ cs. g y ∷ cs) (made_alike xs ys all.1)

  module _ {C : Type 0} (f : A → List C) (g : B → List C) (same : (x : A) (y : B) → R x y → f x ≡ g y) where
    pub flat_alike : (xs : List A) (ys : List B) → AllZip R xs ys → flat_map f xs ≡ flat_map g ys
    flat_alike [] [] all = refl
    flat_alike [] (y ∷ ys) all = absurd all
    flat_alike (x ∷ xs) [] all = absurd all
    flat_alike (x ∷ xs) (y ∷ ys) all = ap (λ cs. cs ++ flat_map f xs) (same x y all.0) ∙ ap (λ cs. g y ++ cs) (flat_alike xs ys all.1)

  as_long : (xs : List A) (ys : List B) → AllZip R xs ys → length xs ≡ length ys
  as_long [] [] all = refl
  as_long [] (y ∷ ys) all = absurd all
  as_long (x ∷ xs) [] all = absurd all
  as_long (x ∷ xs) (y ∷ ys) all = ap suc (as_long xs ys all.1)

  -- tests that answer the same of those that are alike
  module _ (p : A → Bool) (q : B → Bool) (same : (x : A) (y : B) → R x y → p x ≡ q y) where
    pub picked_alike : (xs : List A) (ys : List B) → AllZip R xs ys → AllZip R (filter p xs) (filter q ys)
    picked_alike [] [] all = tt
    picked_alike [] (y ∷ ys) all = absurd all
    picked_alike (x ∷ xs) [] all = absurd all
    picked_alike (x ∷ xs) (y ∷ ys) all = by (p x) refl (sym (same x y all.0)) (picked_alike xs ys all.1)
      where
        by : (picks : Bool) → p x ≡ picks → q y ≡ p x → AllZip R (filter p xs) (filter q ys) → AllZip R (filter p (x ∷ xs)) (filter q (y ∷ ys))
        by true picks other behind = rw (other, picks) (all.0, behind)
        by false picks other behind = rw (other, picks) behind

    pub counted_alike : (xs : List A) (ys : List B) → AllZip R xs ys → length (filter p xs) ≡ length (filter q ys)
    counted_alike xs ys all = as_long (filter p xs) (filter q ys) (picked_alike xs ys all)

    pub any_passes_alike : (xs : List A) (ys : List B) → AllZip R xs ys → list_any p xs ≡ list_any q ys
    any_passes_alike [] [] all = refl
    any_passes_alike [] (y ∷ ys) all = absurd all
    any_passes_alike (x ∷ xs) [] all = absurd all
    any_passes_alike (x ∷ xs) (y ∷ ys) all = ap (λ b. b || list_any p xs) (same x y all.0) ∙ ap (λ b. q y || b) (any_passes_alike xs ys all.1)

    pub all_pass_alike : (xs : List A) (ys : List B) → AllZip R xs ys → list_all p xs ≡ list_all q ys
    all_pass_alike [] [] all = refl
    all_pass_alike [] (y ∷ ys) all = absurd all
    all_pass_alike (x ∷ xs) [] all = absurd all
    all_pass_alike (x ∷ xs) (y ∷ ys) all = ap (λ b. b && list_all p xs) (same x y all.0) ∙ ap (λ b. q y && b) (all_pass_alike xs ys all.1)

  pub last_alike : (o : Option A) (u : Option B) (xs : List A) (ys : List B) → OptionsFit R o u → AllZip R xs ys → OptionsFit R (last_or o xs) (last_or u ys)
  last_alike o u [] [] these all = these
  last_alike o u [] (y ∷ ys) these all = absurd all
  last_alike o u (x ∷ xs) [] these all = absurd all
  last_alike o u (x ∷ xs) (y ∷ ys) these all = last_alike (Some x) (Some y) xs ys all.0 all.1
