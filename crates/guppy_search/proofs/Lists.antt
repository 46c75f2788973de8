-- The elements of a list.
use Rattle.std.proofs.Common.{◌≡◌, ◌⊎◌, ℕ, zero, suc, ◌+◌, ◌<◌, List, [], ◌∷◌, ◌++◌, length, get_or, drop, inl, inr, refl, sym, ap, subst, ◌∙◌, append_assoc, arith, drop-cons, add-one}
use Rattle.std.specs.Prelude.{Contains}
use Rattle.std.specs.List.{FoldsTo}
use Rattle.std.proofs.lemmas.List.{append-nil}
use Rattle.std.proofs.lemmas.List.Elements.{Contains-append_right}
use Rattle.guppy_search.specs.Resolve.{EachAfter}

pub nothing_in : {X : Type 0} (x : X) → Contains [] x → ⊥
nothing_in x (k, h, e) = omega arith

pub Contains-first : {X : Type 0} (x : X) (xs : List X) → Contains (x ∷ xs) x
Contains-first x xs = (0, omega arith, refl)

pub Contains-later : {X : Type 0} (x y : X) (xs : List X) → Contains xs y → Contains (x ∷ xs) y
Contains-later x y xs h = (suc h.0, omega arith, h.2)

pub Contains-cons_cases : {X : Type 0} (x y : X) (xs : List X) → Contains (x ∷ xs) y → (x ≡ y) ⊎ Contains xs y
Contains-cons_cases x y xs (zero, h, e) = inl e
Contains-cons_cases x y xs (suc k, h, e) = inr (k, omega arith, e)

pub no_items : {X : Type 0} (xs : List X) → length xs ≡ 0 → xs ≡ []
no_items [] h = refl
no_items (x ∷ xs) h = cc

-- what is left from i on begins with the element i
pub drop_next : (xs : List ℕ) (i : ℕ) → i < length xs → drop i xs ≡ get_or xs i 0 ∷ drop (i + 1) xs
drop_next xs i h = rw add-one (drop-cons xs i 0 h)

-- steps over a list, and then over another one
pub FoldsTo-append : {P A : Type 0} (R : P → A → P → Type 0) (p : P) (xs : List A) (q : P) (ys : List A) (u : P) → FoldsTo R p xs q → FoldsTo R q ys u → FoldsTo R p (xs ++ ys) u
FoldsTo-append R p [] q ys u e k = subst (λ z. FoldsTo R z ys u) (sym e) k
FoldsTo-append R p (x ∷ xs) q ys u h k = (h.0, h.1, FoldsTo-append R h.0 xs q ys u h.2 k)

-- What holds of each element and the elements before it.

not_empty : {X : Type 0} (before : List X) (y : X) (after : List X) → [] ≡ before ++ y ∷ after → ⊥
not_empty [] y after e = cc
not_empty (b ∷ before) y after e = cc

-- what is said of each element and those before it holds of the empty list
pub EachAfter-nil : {X : Type 0} (P : List X → X → Type 0) → EachAfter P []
EachAfter-nil P before x after e = absurd (not_empty before x after e)

-- and with one more element behind, of which it holds
pub EachAfter-push : {X : Type 0} (P : List X → X → Type 0) (xs : List X) (x : X) → EachAfter P xs → P xs x → EachAfter P (xs ++ x ∷ [])
EachAfter-push {X} P [] x h p [] y after e = let q : x ≡ y = cc in subst (λ (v : X). P [] v) q p
EachAfter-push {X} P [] x h p (b ∷ before) y after e = let q : [] ≡ before ++ y ∷ after = cc in absurd (not_empty before y after q)
EachAfter-push {X} P (z ∷ xs) x h p [] y after e = let q : z ≡ y = cc in subst (λ (v : X). P [] v) q (h [] z xs refl)
EachAfter-push {X} P (z ∷ xs) x h p (b ∷ before) y after e =
    let q : z ≡ b = cc in
    let r : xs ++ x ∷ [] ≡ before ++ y ∷ after = cc in
    subst (λ (v : X). P (v ∷ before) y) q
    (EachAfter-push (λ bs. P (z ∷ bs)) xs x (λ bs v af k. h (z ∷ bs) v af (ap (λ l. z ∷ l) k)) p before y after r)

-- and of its list without the last element, and of that
pub EachAfter-pop : {X : Type 0} (P : List X → X → Type 0) (xs : List X) (x : X) → EachAfter P (xs ++ x ∷ []) → EachAfter P xs × P xs x
EachAfter-pop P xs x h =
    (λ before y after e. h before y (after ++ x ∷ []) (ap (λ l. l ++ x ∷ []) e ∙ append_assoc before (y ∷ after) (x ∷ [])), h xs x [] refl)

-- and with one more element in front
pub EachAfter-cons : {X : Type 0} (P : List X → X → Type 0) (x : X) (xs : List X) → P [] x → EachAfter (λ before y. P (x ∷ before) y) xs → EachAfter P (x ∷ xs)
EachAfter-cons {X} P x xs p h [] y after e = let q : x ≡ y = cc in subst (λ (v : X). P [] v) q p
EachAfter-cons {X} P x xs p h (b ∷ before) y after e =
    let q : x ≡ b = cc in
    let r : xs ≡ before ++ y ∷ after = cc in
    subst (λ (v : X). P (v ∷ before) y) q (h before y after r)

-- and of two lists, one behind the other
pub EachAfter-append : {X : Type 0} (P : List X → X → Type 0) (xs ys : List X) → EachAfter P xs → EachAfter (λ before y. P (xs ++ before) y) ys → EachAfter P (xs ++ ys)
EachAfter-append P [] ys h k = k
EachAfter-append P (x ∷ xs) ys h k =
    EachAfter-cons P x (xs ++ ys) (h [] x xs refl)
    (EachAfter-append (λ before y. P (x ∷ before) y) xs ys (λ before y after e. h (x ∷ before) y after (ap (λ l. x ∷ l) e)) k)

-- each element there is one of the list
pub EachAfter-with : {X : Type 0} (P Q : List X → X → Type 0) (xs : List X) → EachAfter P xs → ((before : List X) (x : X) → Contains xs x → P before x → Q before x) → EachAfter Q xs
EachAfter-with P Q xs h more before x after e =
    more before x (rw e (Contains-append_right before (x ∷ after) x (Contains-first x after))) (h before x after e)

-- from each beginning to the next, up to the whole list
module _ {X : Type 0} (P : List X → X → Type 0) (Q : List X → Type 0) (more : (before : List X) (x : X) → P before x → Q before → Q (before ++ x ∷ [])) where
  from_beginning : (before xs : List X) → EachAfter P (before ++ xs) → Q before → Q (before ++ xs)
  from_beginning before [] each q = rw append-nil q
  from_beginning before (x ∷ xs) each q =
      let same : (before ++ x ∷ []) ++ xs ≡ before ++ x ∷ xs = append_assoc before (x ∷ []) xs in
      subst Q same
      (from_beginning (before ++ x ∷ []) xs (subst (EachAfter P) (sym same) each) (more before x (each before x xs refl) q))

  -- what holds of the empty list, and goes over to each longer beginning, holds of the list
  pub EachAfter-along : (xs : List X) → EachAfter P xs → Q [] → Q xs
  EachAfter-along xs each q = from_beginning [] xs each q
