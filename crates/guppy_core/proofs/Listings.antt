-- Lists of positions: reversed, joined, put into a set, missing from one, and inverse.
use Rattle.std.proofs.Common.{◌≡◌, ◌⊎◌, ◌↔◌, ℕ, suc, zero, ◌+◌, ◌-◌, ◌<◌, ◌≤◌, Bool, true, false, List, [], ◌∷◌, ◌++◌, length, get_or, map, reverse, sym, ap, ◌∙◌, subst, arith, inl, inr, ⊎_elim, Some}
use Rattle.std.specs.Prelude.{slice_get, All, Contains}
use Rattle.std.specs.Option.{option_map}
use Rattle.std.proofs.Math.ListN.{set, length-set}
use Rattle.std.proofs.lemmas.Bool.{cases_lt}
use Rattle.std.proofs.lemmas.List.{get_or-set_same, get_or-reverse, length-reverse, reverse-reverse}
use Rattle.std.proofs.lemmas.Option.{slice_get_within, slice_get-get_or, slice_get-map, get_or_from_slice_get}
use Rattle.guppy_search.specs.IxSet.{has}
use Rattle.guppy_core.proofs.Inserts.{has-set_kept, has-set_cases}
use Rattle.guppy_core.proofs.Places.{at_cases, stands_left, stands_last, stands_cases}
use Rattle.guppy_core.specs.Listing.{Stands, StandsBefore, Precedes, IsOnce, IsAbsence}

-- who stands in a list is in it, and the other way round
pub stands_contains : (xs : List ℕ) (x : ℕ) → Stands xs x → Contains xs x
stands_contains xs x s = (s.0, slice_get_within xs s.0 x s.1, get_or_from_slice_get xs s.0 x x s.1)

pub contains_stands : (xs : List ℕ) (x : ℕ) → Contains xs x → Stands xs x
contains_stands xs x c = (c.0, slice_get-get_or xs c.0 x c.1 ∙ ap Some c.2)

same_value : (xs : List ℕ) (i x y : ℕ) → slice_get xs i ≡ Some x → slice_get xs i ≡ Some y → x ≡ y
same_value xs i x y a b = cc

-- the elements of a reversed list
pub at_reversed : (xs : List ℕ) (i x : ℕ) → slice_get (reverse xs) i ≡ Some x → (j : ℕ) × (slice_get xs j ≡ Some x) × ((i + j) + 1 ≡ length xs)
at_reversed xs i x h =
    let within = slice_get_within (reverse xs) i x h in
    let len = length-reverse xs in
    let below : i < length xs = omega arith in
    let j : ℕ = length xs - 1 - i in
    let j_below : (length xs - 1 - i) < length xs = omega arith in
    let value : get_or xs (length xs - 1 - i) x ≡ x = sym (get_or-reverse xs i x below) ∙ get_or_from_slice_get (reverse xs) i x x h in
    (length xs - 1 - i, slice_get-get_or xs (length xs - 1 - i) x j_below ∙ ap Some value, omega arith)

-- a list that is turned round has the same elements
pub stands_reversed : (xs : List ℕ) (x : ℕ) → Stands (reverse xs) x → Stands xs x
stands_reversed xs x s = let p = at_reversed xs s.0 x s.1 in (p.0, p.1)

pub reversed_stands : (xs : List ℕ) (x : ℕ) → Stands xs x → Stands (reverse xs) x
reversed_stands xs x s = stands_reversed (reverse xs) x (s.0, rw (reverse-reverse xs) s.1)

-- the elements of two lists end to end
pub at_joined : (xs ys : List ℕ) (i x : ℕ) → slice_get (xs ++ ys) i ≡ Some x → (slice_get xs i ≡ Some x) ⊎ ((j : ℕ) × (slice_get ys j ≡ Some x) × (i ≡ length xs + j))
at_joined [] ys i x h = inr (i, h, omega arith)
at_joined (z ∷ xs) ys zero x h = inl h
at_joined (z ∷ xs) ys (suc i) x h = ⊎_elim (λ e. inl e) (λ e. inr (e.0, e.1, let k = e.2 in omega arith)) (at_joined xs ys i x h)

-- what stands in the first of two lists stands in both joined, at the same place
pub joined_left : (xs ys : List ℕ) (i x : ℕ) → slice_get xs i ≡ Some x → slice_get (xs ++ ys) i ≡ Some x
joined_left [] ys i x h = absurd (cc)
joined_left (z ∷ xs) ys zero x h = h
joined_left (z ∷ xs) ys (suc i) x h = joined_left xs ys i x h

joined_at : (xs ys : List ℕ) (j x : ℕ) → slice_get ys j ≡ Some x → (i : ℕ) × (slice_get (xs ++ ys) i ≡ Some x) × (i ≡ length xs + j)
joined_at [] ys j x h = (j, h, omega arith)
joined_at (z ∷ xs) ys j x h = let r = joined_at xs ys j x h in (suc r.0, r.1, let e = r.2 in omega arith)

-- and so does what stands in the second
pub joined_right : (xs ys : List ℕ) (x : ℕ) → Stands ys x → Stands (xs ++ ys) x
joined_right xs ys x s = let r = joined_at xs ys s.0 x s.1 in (r.0, r.1)

-- who stands before whom in two lists end to end
pub left_precedes : (xs ys : List ℕ) (x y : ℕ) → Precedes xs x y → Precedes (xs ++ ys) x y
left_precedes xs ys x y p = (p.0, p.1, p.2, joined_left xs ys p.0 x p.3, joined_left xs ys p.1 y p.4)

-- and keeps its order there
pub right_precedes : (xs ys : List ℕ) (x y : ℕ) → Precedes ys x y → Precedes (xs ++ ys) x y
right_precedes xs ys x y p =
    let i = joined_at xs ys p.0 x p.3 in
    let j = joined_at xs ys p.1 y p.4 in
    (i.0, j.0, (let e = i.2 in let f = j.2 in let l = p.2 in omega arith), i.1, j.1)

-- who is in the first stands before who is in the second
pub across_precedes : (xs ys : List ℕ) (x y : ℕ) → Stands xs x → Stands ys y → Precedes (xs ++ ys) x y
across_precedes xs ys x y s t =
    let j = joined_at xs ys t.0 y t.1 in
    (s.0, j.0, (let l = slice_get_within xs s.0 x s.1 in let e = j.2 in omega arith), joined_left xs ys s.0 x s.1, j.1)

-- where nothing stands twice, nobody stands both before and after another
pub never_both : (xs : List ℕ) → IsOnce xs → (x y : ℕ) → Precedes xs x y → Precedes xs y x → ⊥
never_both xs once x y p q =
    let e = once p.0 q.1 x p.3 q.4 in
    let f = once p.1 q.0 y p.4 q.3 in
    let l = p.2 in
    let m = q.2 in
    omega arith

-- what holds of each number that stands in the list of what f reads
pub all_standing : {X : Type 0} (f : X → ℕ) (P : ℕ → Type 0) (xs : List X) → ((p : ℕ) → Stands (map f xs) p → P p) → All (λ x. P (f x)) xs
all_standing f P xs each k d within = each _ (k, slice_get-map f xs k ∙ ap (option_map f) (slice_get-get_or xs k d within))

-- the set of the first i of a list
pub record IsSetOf (list : List ℕ) (limit i : ℕ) (s : List Bool) : Type 0 where
  pub limit_is : length s ≡ limit
  pub members : (p : ℕ) → (has s p ≡ true) ↔ StandsBefore list i p

-- one more of the list was put in
pub set_more : (list : List ℕ) (limit i : ℕ) (s : List Bool) → IsSetOf list limit i s → i < length list → All (λ p. p < limit) list → IsSetOf list limit (i + 1) (set s (get_or list i 0) true)
set_more list limit i s m within below =
    let x : ℕ = get_or list i 0 in
    let at : slice_get list i ≡ Some (get_or list i 0) = slice_get-get_or list i 0 within in
    let low = below i 0 within in
    let low' : get_or list i 0 < length s = let e = m.limit_is in omega arith in
    record {
      limit_is = length-set s (get_or list i 0) true ∙ m.limit_is;
      members = λ p. (
        λ h. ⊎_elim
            (λ e. (i, omega arith, subst (λ z. slice_get list i ≡ Some z) (sym e) at))
            (λ o. let b = (m.members p).0 o in (b.0, (let l = b.1 in omega arith), b.2))
            (has-set_cases s (get_or list i 0) p h),
        λ b. ⊎_elim
            (λ l. has-set_kept s (get_or list i 0) p ((m.members p).1 (b.0, l, b.2)))
            (λ ge.
            let e : b.0 ≡ i = let l = b.1 in omega arith in
            let at' : slice_get list i ≡ Some p = subst (λ z. slice_get list z ≡ Some p) e b.2 in
            subst (λ z. has (set s (get_or list i 0) true) z ≡ true) (same_value list i (get_or list i 0) p at at') (get_or-set_same s (get_or list i 0) true false low'))
            (cases_lt b.0 i),
      );
    }

-- the whole list was put in
pub set_all : (list : List ℕ) (limit i : ℕ) (s : List Bool) → IsSetOf list limit i s → length list ≤ i → (p : ℕ) → (has s p ≡ true) ↔ Stands list p
set_all list limit i s m all p = (
  λ h. let b = (m.members p).0 h in (b.0, b.2),
  λ t. (m.members p).1 (t.0, (let w = slice_get_within list t.0 p t.1 in omega arith), t.1),
)

-- the positions that are not in the set
module _ (s : List Bool) where
  module _ (n : ℕ) (list : List ℕ) (a : IsAbsence s n list) where
    -- the next position is in the set
    pub absence_skipped : has s n ≡ true → IsAbsence s (n + 1) list
    absence_skipped here = record {
      ascends = a.ascends;
      members = λ p. (
        λ t. let b = (a.members p).0 t in ((let l = b.0 in omega arith), b.1),
        λ b. ⊎_elim
            (λ l. (a.members p).1 (l, b.1))
            (λ ge. absurd (let e : p ≡ n = let l = b.0 in omega arith in let f : has s n ≡ false = subst (λ z. has s z ≡ false) e b.1 in cc))
            (cases_lt p n),
      );
    }

    -- the next position is absent
    pub absence_more : has s n ≡ false → IsAbsence s (n + 1) (list ++ n ∷ [])
    absence_more lacks = record {
      ascends = λ i j x y p q l.
          ⊎_elim
          (λ old. ⊎_elim (λ old_x. a.ascends i j x y old_x old l) (λ e. absurd (let w = slice_get_within list j y old in let k = e.0 in omega arith)) (at_cases list n i x p))
          (λ e. ⊎_elim (λ old_x. let b = ((a.members x).0 (i, old_x)).0 in let k = e.1 in omega arith) (λ f. absurd (let k = f.0 in let k' = e.0 in omega arith)) (at_cases list n i x p))
          (at_cases list n j y q);
      members = λ p. (
        λ t. ⊎_elim
            (λ old. let b = (a.members p).0 old in ((let l = b.0 in omega arith), b.1))
            (λ e. (omega arith, subst (λ z. has s z ≡ false) (sym e) lacks))
            (stands_cases list n p t),
        λ b. ⊎_elim
            (λ l. stands_left list n p ((a.members p).1 (l, b.1)))
            (λ ge. stands_last list n p (let l = b.0 in omega arith))
            (cases_lt p n),
      );
    }

-- the places of the first i of a list
pub record ArePlaces (list : List ℕ) (i : ℕ) (places : List ℕ) : Type 0 where
  pub count : length places ≡ length list
  pub place : (k p : ℕ) → k < i → slice_get list k ≡ Some p → slice_get places p ≡ Some k

-- those absent are positions
pub absence_below : (n : ℕ) (s : List Bool) (list : List ℕ) → length s ≡ n → IsAbsence s (length s) list → All (λ p. p < n) list
absence_below n s list e a k d h = let b = ((a.members (get_or list k d)).0 (k, slice_get-get_or list k d h)).0 in omega arith
