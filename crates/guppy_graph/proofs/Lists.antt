-- Lists, place by place.
use Rattle.std.proofs.Common.{◌≡◌, ◌∙◌, sym, refl, ap, subst, arith, ℕ, zero, suc, ◌<◌, ◌+◌, List, [], ◌∷◌, ◌++◌, get_or, length, map, take, All, Option, Some, None, slice_get, true, false}
use Rattle.std.specs.Prelude.{MatchOption, IsSomeAnd, is_some, option_map}
use Rattle.std.specs.Option.{ForSome, option_and_then}
use Rattle.std.specs.List.{AllZip, Contains}
use Rattle.std.proofs.lemmas.List.{take_more}
use Rattle.std.proofs.lemmas.Option.{slice_get_within, get_or_from_slice_get, slice_get-map}
use Rattle.std.proofs.lemmas.List.Elements.{All-push}
use Rattle.indexmap.proofs.SetLemmas.{AllZip-push}
use Rattle.guppy_graph.specs.First.{IsFirstWithout}

pub MatchOption-along : {A : Type 0} (o : Option A) (P Q : Type 0) (R S : A → Type 0) → (P → Q) → ((x : A) → R x → S x) → MatchOption o P R → MatchOption o Q S
MatchOption-along None P Q R S none some h = none h
MatchOption-along (Some x) P Q R S none some h = some x h

pub none_is : {A : Type 0} (o : Option A) (P : Type 0) (R : A → Type 0) → is_some o ≡ false → MatchOption o P R → P
none_is None P R e h = h
none_is (Some x) P R e h = absurd (cc)

pub some_is : {A : Type 0} (o : Option A) (P : Type 0) (R : A → Type 0) → is_some o ≡ true → MatchOption o P R → (x : A) × R x
some_is None P R e h = absurd (cc)
some_is (Some x) P R e h = (x, h)

-- one more of the list, which has a partner
pub AllZip-more : {A B : Type 0} (R : A → B → Type 0) (xs : List A) (ys : List B) (k : ℕ) (x : A) (y : B) → k < length xs → get_or xs k x ≡ x → AllZip R (take k xs) ys → R x y → AllZip R (take (k + 1) xs) (ys ++ y ∷ [])
AllZip-more R xs ys k x y within at h r =
    subst (λ l. AllZip R l (ys ++ y ∷ [])) (sym (take_more xs k x within ∙ ap (λ e. take k xs ++ e ∷ []) at)) (AllZip-push R (take k xs) ys x y h r)

pub AllZip-at : {A B : Type 0} (R : A → B → Type 0) (xs : List A) (ys : List B) (k : ℕ) (x : A) (y : B) → AllZip R xs ys → slice_get xs k ≡ Some x → slice_get ys k ≡ Some y → R x y
AllZip-at R [] [] k x y h at_x at_y = absurd (cc)
AllZip-at R [] (b ∷ ys) k x y h at_x at_y = absurd h
AllZip-at R (a ∷ xs) [] k x y h at_x at_y = absurd h
AllZip-at R (a ∷ xs) (b ∷ ys) zero x y h at_x at_y =
    let same_x : a ≡ x = cc in
    let same_y : b ≡ y = cc in
    subst (λ z. R z y) same_x (subst (R a) same_y h.0)
AllZip-at R (a ∷ xs) (b ∷ ys) (suc k) x y h at_x at_y = AllZip-at R xs ys k x y h.1 at_x at_y

-- one more element that satisfies P
pub All-take_more : {A : Type 0} (P : A → Type 0) (xs : List A) (k : ℕ) (x : A) → k < length xs → get_or xs k x ≡ x → All P (take k xs) → P x → All P (take (k + 1) xs)
All-take_more P xs k x within at all p =
    subst (All P) (sym (take_more xs k x within ∙ ap (λ e. take k xs ++ e ∷ []) at)) (All-push P (take k xs) x all p)

-- each element has its partner
pub All-from_AllZip : {A B : Type 0} (R : A → B → Type 0) (xs : List A) (ys : List B) → AllZip R xs ys → All (λ x. (y : B) × R x y) xs
All-from_AllZip R [] [] h k d within = absurd (omega arith)
All-from_AllZip R [] (y ∷ ys) h k d within = absurd h
All-from_AllZip R (x ∷ xs) [] h k d within = absurd h
All-from_AllZip R (x ∷ xs) (y ∷ ys) h zero d within = (y, h.0)
All-from_AllZip R (x ∷ xs) (y ∷ ys) h (suc k) d within = All-from_AllZip R xs ys h.1 k d (omega arith)

-- partners of partners
pub AllZip-through : {A B C D : Type 0} (f : B → C) (R : A → C → Type 0) (S : B → D → Type 0) (T : A → D → Type 0) → ((x : A) (y : B) (z : D) → R x (f y) → S y z → T x z) → (xs : List A) (ys : List B) (zs : List D) → AllZip R xs (map f ys) → AllZip S ys zs → AllZip T xs zs
AllZip-through f R S T joined [] [] [] r s = tt
AllZip-through f R S T joined [] [] (z ∷ zs) r s = absurd s
AllZip-through f R S T joined [] (y ∷ ys) zs r s = absurd r
AllZip-through f R S T joined (x ∷ xs) [] zs r s = absurd r
AllZip-through f R S T joined (x ∷ xs) (y ∷ ys) [] r s = absurd s
AllZip-through f R S T joined (x ∷ xs) (y ∷ ys) (z ∷ zs) r s = (joined x y z r.0 s.0, AllZip-through f R S T joined xs ys zs r.1 s.1)

-- what the partners of all have, each partner has
pub All-from_AllZip_right : {A B C : Type 0} (f : B → C) (R : A → C → Type 0) (P : B → Type 0) → ((x : A) (y : B) → R x (f y) → P y) → (xs : List A) (ys : List B) → AllZip R xs (map f ys) → All P ys
All-from_AllZip_right f R P has xs [] h k d within = absurd (omega arith)
All-from_AllZip_right f R P has [] (y ∷ ys) h k d within = absurd h
All-from_AllZip_right f R P has (x ∷ xs) (y ∷ ys) h zero d within = has x y h.0
All-from_AllZip_right f R P has (x ∷ xs) (y ∷ ys) h (suc k) d within = All-from_AllZip_right f R P has xs ys h.1 k d (omega arith)

-- what holds of all holds of the one at a place
pub All-slice_get : {A : Type 0} (P : A → Type 0) (xs : List A) (k : ℕ) (x : A) → All P xs → slice_get xs k ≡ Some x → P x
All-slice_get P xs k x all found = subst P (get_or_from_slice_get xs k x x found) (all k x (slice_get_within xs k x found))

-- a list of one element has that one alone
pub only_one : (s p : ℕ) → Contains (p ∷ []) s → s ≡ p
only_one s p (zero, within, same) = sym same
only_one s p (suc k, within, same) = absurd (omega arith)

-- the element at a place
pub some_at : {A : Type 0} (xs : List A) (p : ℕ) → p < length xs → (x : A) × (slice_get xs p ≡ Some x)
some_at [] p within = absurd (omega arith)
some_at (x ∷ xs) zero within = (x, refl)
some_at (x ∷ xs) (suc p) within = some_at xs p (omega arith)

-- the value, and what holds of it
pub some_of : {A : Type 0} (o : Option A) (P : A → Type 0) → IsSomeAnd o P → (x : A) × (o ≡ Some x) × P x
some_of None P h = absurd h
some_of (Some x) P h = (x, refl, h)

pub of_some : {A : Type 0} (o : Option A) (P : A → Type 0) (x : A) → o ≡ Some x → P x → IsSomeAnd o P
of_some o P x is h = rw is h

pub in_some : {A : Type 0} (o : Option A) (P : A → Type 0) (x : A) → o ≡ Some x → IsSomeAnd o P → P x
in_some o P x is h = rw is at h

-- where one item lacks it, not all have it
pub not_all : {A : Type 0} (P : A → Type 0) (items : List A) (k : ℕ) → IsFirstWithout P items k → All P items → ⊥
not_all P items k first all = first.lacks (All-slice_get P items k first.item all first.found)

own_image : {A X : Type 0} (f : A → Option X) (o : Option A) (x : Option X) → option_map f o ≡ Some x → x ≡ option_and_then f o
own_image f None x is = absurd (cc)
own_image f (Some y) x is = cc

-- where two lists have the same images, each item of one has the image of the other's at its place
pub each_image : {T A X : Type 0} (v : T → Option X) (f : A → Option X) (ts : List T) (items : List A) → map v ts ≡ map f items → (p : ℕ) → ForSome (slice_get ts p) (λ t. v t ≡ option_and_then f (slice_get items p))
each_image v f ts items same p t is =
    own_image f (slice_get items p) (v t) (sym (slice_get-map f items p) ∙ (ap (λ l. slice_get l p) (sym same) ∙ (slice_get-map v ts p ∙ ap (option_map v) is)))
