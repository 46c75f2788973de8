-- Lists that grow by what is said of the elements of another list.
use Rattle.std.proofs.Common.{◌≡◌, ◌≢◌, ◌∙◌, ◌⊎◌, ◌↔◌, inl, inr, ⊎_elim, refl, sym, ap, subst, ℕ, zero, suc, ◌+◌, ◌<◌, ◌≤◌, List, [], ◌∷◌, ◌++◌, length, map, take, get_or, All, Contains, Option, Some, None, MatchOption, arith}
use Rattle.std.proofs.lemmas.List.{map_push, take_more, take_all}
use Rattle.std.proofs.lemmas.List.Elements.{Contains-append_left, Contains-append_right, Contains-push, Contains-push_cases}
use Rattle.json.specs.Json.{Json, array}
use Rattle.json.specs.Value.{items_of}
use Rattle.guppy_declared.specs.Declares.{all_of, listed}
use Rattle.guppy_declared.specs.Grown.{IsGrown}

pub contains_none : {X : Type 0} (x : X) → Contains [] x → ⊥
contains_none x (k, within, same) = absurd (omega arith)

module _ {X Y : Type 0} (R : X → Y → Type 0) where
  -- nothing is said of no elements
  pub grown_none : (ys : List Y) → IsGrown R [] ys ys
  grown_none ys y = (inl, λ either. ⊎_elim (λ old. old) (λ one. absurd (contains_none one.0 one.1)) either)

  -- one more element adds what is said of it
  grown_push : (xs : List X) (x : X) (old mid new : List Y) → IsGrown R xs old mid
      → ((y : Y) → Contains new y ↔ (Contains mid y ⊎ R x y)) → IsGrown R (xs ++ x ∷ []) old new
  grown_push xs x old mid new before step y = (
    λ there. ⊎_elim
        (λ early. ⊎_elim (λ was. inl was) (λ one. inr (one.0, Contains-append_left xs (x ∷ []) one.0 one.1, one.2)) ((before y).0 early))
        (λ said. inr (x, Contains-push xs x, said)) ((step y).0 there),
    λ either. ⊎_elim
        (λ was. (step y).1 (inl ((before y).1 (inl was))))
        (λ one. ⊎_elim
        (λ early. (step y).1 (inl ((before y).1 (inr (one.0, early, one.2)))))
        (λ same. (step y).1 (inr (subst (λ z. R z y) (sym same) one.2)))
        (Contains-push_cases xs x one.0 one.1)) either,
  )

  -- the step of a loop over elements that are seen as f tells
  pub grown_more : {Z : Type 0} (f : Z → X) (zs : List Z) (k : ℕ) (z other : Z) → k < length zs → z ≡ get_or zs k other
      → (old mid new : List Y) → IsGrown R (map f (take k zs)) old mid
      → ((y : Y) → Contains new y ↔ (Contains mid y ⊎ R (f z) y)) → IsGrown R (map f (take (k + 1) zs)) old new
  grown_more f zs k z other low is old mid new before step =
      let longer : map f (take (k + 1) zs) ≡ map f (take k zs) ++ f z ∷ [] =
      ap (map f) (take_more zs k other low ∙ ap (λ w. take k zs ++ w ∷ []) (sym is)) ∙ map_push f (take k zs) z in
      subst (λ xs. IsGrown R xs old new) (sym longer) (grown_push (map f (take k zs)) (f z) old mid new before step)

  -- the end of the loop
  pub grown_all : {Z : Type 0} (f : Z → X) (zs : List Z) (k : ℕ) → length zs ≤ k → (old new : List Y)
      → IsGrown R (map f (take k zs)) old new → IsGrown R (map f zs) old new
  grown_all f zs k past old new grown = subst (λ xs. IsGrown R (map f xs) old new) (take_all k zs past) grown

  -- an element of which nothing is said adds nothing
  pub step_none : (x : X) (ys : List Y) → ((y : Y) → R x y → ⊥) → (y : Y) → Contains ys y ↔ (Contains ys y ⊎ R x y)
  step_none x ys never y = (inl, λ either. ⊎_elim (λ was. was) (λ said. absurd (never y said)) either)

  -- an element of which one thing is said adds that
  pub step_one : {Z : Type 0} (shown : Z → Y) (x : X) (zs zs' : List Z) (z : Z) → zs' ≡ zs ++ z ∷ []
      → ((y : Y) → (y ≡ shown z) ↔ R x y) → (y : Y) → Contains (map shown zs') y ↔ (Contains (map shown zs) y ⊎ R x y)
  step_one shown x zs zs' z is said y =
      let longer : map shown zs' ≡ map shown zs ++ shown z ∷ [] = ap (map shown) is ∙ map_push shown zs z in
      let ys = map shown zs in (
        λ there. ⊎_elim (λ early. inl early) (λ same. inr ((said y).0 (sym same)))
            (Contains-push_cases ys (shown z) y (subst (λ l. Contains l y) longer there)),
        λ either. subst (λ l. Contains l y) (sym longer) (⊎_elim
            (λ was. Contains-append_left ys (shown z ∷ []) y was)
            (λ r. subst (Contains (ys ++ shown z ∷ [])) (sym ((said y).1 r)) (Contains-push ys (shown z))) either),
      )

-- what is done to each element of a list is done to its elements
pub Contains-map : {X Y : Type 0} (f : X → Y) (xs : List X) (x : X) → Contains xs x → Contains (map f xs) (f x)
Contains-map f [] x there = absurd (contains_none x there)
Contains-map f (z ∷ zs) x (zero, within, same) = (zero, omega arith, ap f same)
Contains-map f (z ∷ zs) x (suc k, within, same) = Contains-append_right (f z ∷ []) (map f zs) (f x) (Contains-map f zs x (k, omega arith, same))

pub from_map : {X Y : Type 0} (f : X → Y) (xs : List X) (y : Y) → Contains (map f xs) y → (x : X) × Contains xs x × (f x ≡ y)
from_map f [] y there = absurd (contains_none y there)
from_map f (x ∷ xs) y (zero, within, same) = (x, (zero, omega arith, refl), same)
from_map f (x ∷ xs) y (suc k, within, same) =
    let later = from_map f xs y (k, omega arith, same) in
    (later.0, Contains-append_right (x ∷ []) xs later.0 later.1, later.2)

-- one that none of them is, is not there
pub none_there : {X Y : Type 0} (f : X → Y) (xs : List X) (k : ℕ) → length xs ≤ k → (y : Y) → All (λ x. f x ≢ y) (take k xs) → Contains (map f xs) y → ⊥
none_there f xs k past y none there =
    let one = from_map f xs y there in
    let all = subst (All (λ x. f x ≢ y)) (take_all k xs past) none in
    all one.1.0 one.0 one.1.1 (ap f one.1.2 ∙ one.2)

-- the first elements of a list, and one more
pub take_with : {X : Type 0} (xs : List X) (k : ℕ) (x other : X) → k < length xs → x ≡ get_or xs k other → take (k + 1) xs ≡ take k xs ++ x ∷ []
take_with xs k x other low is = take_more xs k other low ∙ ap (λ w. take k xs ++ w ∷ []) (sym is)

-- the items of a list that these make
pub all_items : (ds : List Json) → all_of (items_of ds) ≡ ds
all_items [] = refl
all_items (d ∷ ds) = ap (λ l. d ∷ l) (all_items ds)

-- what is said of the value in a member is said of the member
pub items_found : {V : Type 0} (r : Option V) (items : V → List Json) (d : Json) → MatchOption r (listed (Some d) ≡ []) (λ v. d ≡ array (items_of (items v)))
    → (o : Option Json) → Some d ≡ o → MatchOption r (listed o ≡ []) (λ v. items v ≡ listed o)
items_found None items d none o is = sym (ap listed is) ∙ none
items_found (Some v) items d are o is = sym (all_items (items v)) ∙ (sym (ap (λ j. listed (Some j)) are) ∙ ap listed is)
