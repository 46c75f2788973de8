-- Cycles: a path that closes is one, and where there is none no step leads round.
use Rattle.std.proofs.Common.{◌≡◌, ◌≢◌, ◌⊎◌, ℕ, suc, zero, ◌+◌, ◌-◌, ◌<◌, true, false, List, [], ◌∷◌, ◌++◌, length, refl, sym, ap, ◌∙◌, subst, inl, inr, arith, ⊎_elim, Some}
use Rattle.std.specs.Prelude.{◌==◌, slice_get, if◌then◌else◌}
use Rattle.std.proofs.lemmas.Bool.{cases_eq, eqb-true, eqb-false}
use Rattle.std.proofs.lemmas.Option.{slice_get_within}
use Rattle.guppy_search.specs.Reach.{Walk, here, step}
use Rattle.guppy_search.proofs.Walks.{walk_back}
use Rattle.guppy_core.specs.Listing.{IsOnce}
use Rattle.guppy_core.specs.Topo.{HasNoCycle}
use Rattle.guppy_core.specs.Cycle.{IsCycle, IsAcyclic, from_first}
use Rattle.guppy_core.proofs.Levels.{In}

-- a path: each has a step to the next, and stands nowhere behind
abbrev pub IsPath : (ℕ → ℕ → Type 0) → List ℕ → Type 0
IsPath R [] = Unit {0}
IsPath R (x ∷ xs) = ((y : ℕ) → slice_get xs 0 ≡ Some y → R x y) × (In xs x → ⊥) × IsPath R xs

-- l stands at the list's end
abbrev pub IsLast : List ℕ → ℕ → Type 0
IsLast [] l = ⊥
IsLast (x ∷ []) l = x ≡ l
IsLast (x ∷ y ∷ ys) l = IsLast (y ∷ ys) l

in_at : (xs : List ℕ) (i x : ℕ) → slice_get xs i ≡ Some x → In xs x
in_at [] i x h = absurd (cc)
in_at (y ∷ ys) zero x h = inl (let e : y ≡ x = cc in sym e)
in_at (y ∷ ys) (suc i) x h = inr (in_at ys i x h)

module _ (R : ℕ → ℕ → Type 0) where
  path_once : (xs : List ℕ) → IsPath R xs → IsOnce xs
  path_once [] p i j x h k = absurd (cc)
  path_once (y ∷ ys) p zero zero x h k = refl
  path_once (y ∷ ys) p zero (suc j) x h k = absurd (p.1 (let e : y ≡ x = cc in subst (λ z. In ys z) (sym e) (in_at ys j x k)))
  path_once (y ∷ ys) p (suc i) zero x h k = absurd (p.1 (let e : y ≡ x = cc in subst (λ z. In ys z) (sym e) (in_at ys i x h)))
  path_once (y ∷ ys) p (suc i) (suc j) x h k = ap suc (path_once ys p.2 i j x h k)

  path_steps : (xs : List ℕ) → IsPath R xs → (i x y : ℕ) → slice_get xs i ≡ Some x → slice_get xs (i + 1) ≡ Some y → R x y
  path_steps [] p i x y h k = absurd (cc)
  path_steps (z ∷ zs) p zero x y h k = let e : z ≡ x = cc in subst (λ a. R a y) e (p.0 y k)
  path_steps (z ∷ zs) p (suc i) x y h k = let e : suc i + 1 ≡ suc (i + 1) = omega arith in path_steps zs p.2 i x y h (subst (λ n. slice_get (z ∷ zs) n ≡ Some y) e k)

  path_last : (xs : List ℕ) (l i x : ℕ) → IsLast xs l → slice_get xs i ≡ Some x → i + 1 ≡ length xs → x ≡ l
  path_last [] l i x last h e = absurd last
  path_last (z ∷ []) l zero x last h e = let a : z ≡ x = cc in sym a ∙ last
  path_last (z ∷ []) l (suc i) x last h e = absurd (omega arith)
  path_last (z ∷ w ∷ ws) l zero x last h e = absurd (omega arith)
  path_last (z ∷ w ∷ ws) l (suc i) x last h e = path_last (w ∷ ws) l i x last h (omega arith)

  -- a path whose last has a step to its first, another one, is a cycle
  pub path_closed : (xs : List ℕ) (v l : ℕ) → IsPath R xs → slice_get xs 0 ≡ Some v → IsLast xs l → v ≢ l → R l v → IsCycle R xs
  path_closed [] v l p first last other r = absurd last
  path_closed (x ∷ []) v l p first last other r = absurd (let e : x ≡ v = cc in other (sym e ∙ last))
  path_closed (x ∷ y ∷ ys) v l p first last other r = record {
    several = omega arith;
    once = path_once (x ∷ y ∷ ys) p;
    steps = path_steps (x ∷ y ∷ ys) p;
    back = λ i a b h e k.
        let at_end = path_last (x ∷ y ∷ ys) l i a last h e in
        let at_front : v ≡ b = cc in
        subst (λ z. R z b) (sym at_end) (subst (λ z. R l z) at_front r);
  }

  -- what a path has from one of its places on is a path to its end
  pub path_from : (xs : List ℕ) (v : ℕ) → IsPath R xs → IsPath R (from_first v xs)
  path_from [] v p = p
  path_from (x ∷ xs) v p = elim (x == v) as (λ b. IsPath R (if b then x ∷ xs else from_first v xs)) [ true ↦ p | false ↦ path_from xs v p.2 ]

-- it begins there
pub from_first_begins : (xs : List ℕ) (v : ℕ) → In xs v → slice_get (from_first v xs) 0 ≡ Some v
from_first_begins [] v i = absurd i
from_first_begins (x ∷ xs) v i = elim (x == v) as (λ b. (x == v) ≡ b → slice_get (if b then x ∷ xs else from_first v xs) 0 ≡ Some v) [
  | true ↦ λ e. ap Some (eqb-true x v e)
  | false ↦ λ e. ⊎_elim (λ same. absurd (eqb-false x v e (sym same))) (λ r. from_first_begins xs v r) i
] refl

last_of_more : (x : ℕ) (xs : List ℕ) (v l : ℕ) → In xs v → IsLast (x ∷ xs) l → IsLast xs l
last_of_more x [] v l i last = absurd i
last_of_more x (y ∷ ys) v l i last = last

-- and ends where the list does
pub from_first_ends : (xs : List ℕ) (v l : ℕ) → In xs v → IsLast xs l → IsLast (from_first v xs) l
from_first_ends [] v l i last = absurd i
from_first_ends (x ∷ xs) v l i last = elim (x == v) as (λ b. (x == v) ≡ b → IsLast (if b then x ∷ xs else from_first v xs) l) [
  | true ↦ λ e. last
  | false ↦ λ e. ⊎_elim (λ same. absurd (eqb-false x v e (sym same))) (λ r. from_first_ends xs v l r (last_of_more x xs v l r last)) i
] refl

-- a list that begins there goes on with what comes behind
pub from_first_more : (v x : ℕ) (xs l : List ℕ) → l ≡ from_first v xs → (0 < length l) ⊎ (x ≡ v) → l ++ x ∷ [] ≡ from_first v (xs ++ x ∷ [])
from_first_more v x [] l is o = ⊎_elim
    (λ some. absurd (let n = subst (λ (z : List ℕ). 0 < length z) is some in omega arith))
    (λ same. rw is (elim (x == v) as (λ b. (x == v) ≡ b → x ∷ [] ≡ (if b then x ∷ [] else [])) [ true ↦ λ e. refl | false ↦ λ e. absurd (eqb-false x v e same) ] refl))
    o
from_first_more v x (y ∷ ys) l is o = elim (y == v) as (λ b. l ≡ (if b then y ∷ ys else from_first v ys) → l ++ x ∷ [] ≡ (if b then y ∷ (ys ++ x ∷ []) else from_first v (ys ++ x ∷ []))) [
  | true ↦ λ e. rw e refl
  | false ↦ λ e. from_first_more v x ys l e o
] is

-- and nothing begins there before v comes
pub from_first_none : (v x : ℕ) (xs l : List ℕ) → l ≡ from_first v xs → length l ≡ 0 → x ≢ v → l ≡ from_first v (xs ++ x ∷ [])
from_first_none v x [] l is none other = elim (x == v) as (λ b. (x == v) ≡ b → l ≡ (if b then x ∷ [] else [])) [ true ↦ λ e. absurd (other (eqb-true x v e)) | false ↦ λ e. is ] refl
from_first_none v x (y ∷ ys) l is none other = elim (y == v) as (λ b. l ≡ (if b then y ∷ ys else from_first v ys) → l ≡ (if b then y ∷ (ys ++ x ∷ []) else from_first v (ys ++ x ∷ []))) [
  | true ↦ λ e. absurd (let n : length (y ∷ ys) ≡ 0 = subst (λ z. length z ≡ 0) e none in omega arith)
  | false ↦ λ e. from_first_none v x ys l e none other
] is

in_or_not : (xs : List ℕ) (v : ℕ) → In xs v ⊎ (In xs v → ⊥)
in_or_not [] v = inr (λ i. i)
in_or_not (x ∷ xs) v = ⊎_elim
    (λ e. inl (inl e))
    (λ differ. ⊎_elim (λ i. inl (inr i)) (λ no. inr (λ i. ⊎_elim (λ e. absurd (differ e)) no i)) (in_or_not xs v))
    (cases_eq v x)

some_at : {A : Type 0} (xs : List A) (i : ℕ) → i < length xs → (v : A) × (slice_get xs i ≡ Some v)
some_at [] i h = absurd (omega arith)
some_at (x ∷ xs) zero h = (x, refl)
some_at (x ∷ xs) (suc i) h = some_at xs i (omega arith)

module _ (R : ℕ → ℕ → Type 0) where
  -- a path from c to a
  record IsPathTo (c a : ℕ) : Type 0 where
    path : List ℕ
    is_path : IsPath R path
    begins : slice_get path 0 ≡ Some c
    ends : IsLast path a

  more_last : (c : ℕ) (xs : List ℕ) (b a : ℕ) → slice_get xs 0 ≡ Some b → IsLast xs a → IsLast (c ∷ xs) a
  more_last c [] b a h last = absurd last
  more_last c (x ∷ xs) b a h last = last

  -- a walk back from a to c, with its rounds left out, is a path from c to a
  path_of : {a c : ℕ} → Walk (λ x y. R y x) a c → IsPathTo c a
  path_of {a} here = record { path = a ∷ []; is_path = (λ y h. absurd (cc), λ i. i, tt); begins = refl; ends = refl }
  path_of {a} {c} (step {b = b} w r) =
      let p = path_of w in
      ⊎_elim
      (λ i. record {
        path = from_first c p.path;
        is_path = path_from R p.path c p.is_path;
        begins = from_first_begins p.path c i;
        ends = from_first_ends p.path c a i p.ends;
      })
      (λ new. record {
        path = c ∷ p.path;
        is_path = (λ y h. let e : b ≡ y = let f = p.begins in cc in subst (λ z. R c z) e r, new, p.is_path);
        begins = refl;
        ends = more_last c p.path b a p.begins p.ends;
      })
      (in_or_not p.path c)

  -- where no list is a cycle, steps lead round to no other position
  pub acyclic_steps : IsAcyclic R → HasNoCycle R
  acyclic_steps none x y r w = ⊎_elim
      (λ same. same)
      (λ other.
      let p = path_of (walk_back R (λ a b. R b a) (λ a b s. s) w) in
      absurd (none p.path (path_closed R p.path y x p.is_path p.begins p.ends (λ e. other (sym e)) r)))
      (cases_eq x y)

  walk_along : (list : List ℕ) → ((i x y : ℕ) → slice_get list i ≡ Some x → slice_get list (i + 1) ≡ Some y → R x y) → (k i x y : ℕ) → slice_get list i ≡ Some x → slice_get list (i + k) ≡ Some y → Walk R x y
  walk_along list steps zero i x y h k = let e : i + 0 ≡ i = omega arith in let k' : slice_get list i ≡ Some y = subst (λ z. slice_get list z ≡ Some y) e k in let same : x ≡ y = cc in subst (λ z. Walk R x z) same here
  walk_along list steps (suc n) i x y h k =
      let within = slice_get_within list (i + suc n) y k in
      let m = some_at list (i + n) (omega arith) in
      let e : i + suc n ≡ i + n + 1 = omega arith in
      step (walk_along list steps n i x m.0 h m.1) (steps (i + n) m.0 y m.1 (subst (λ z. slice_get list z ≡ Some y) e k))

  -- and where they lead round to none, no list is a cycle
  pub steps_acyclic : HasNoCycle R → IsAcyclic R
  steps_acyclic none list c =
      let several = c.several in
      let a = some_at list 0 (omega arith) in
      let b = some_at list 1 (omega arith) in
      let z = some_at list (1 + (length list - 2)) (omega arith) in
      let w = walk_along list c.steps (length list - 2) 1 b.0 z.0 b.1 z.1 in
      let r = c.back (1 + (length list - 2)) z.0 a.0 z.1 (omega arith) a.1 in
      let same = none a.0 b.0 (c.steps 0 a.0 b.0 a.1 b.1) (step w r) in
      absurd (let e = c.once 0 1 b.0 (subst (λ v. slice_get list 0 ≡ Some v) same a.1) b.1 in omega arith)
