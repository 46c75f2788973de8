-- The length of a list that has each number once.
use Rattle.std.proofs.Common.{◌≡◌, ℕ, suc, zero, ◌+◌, ◌<◌, ◌≤◌, Bool, true, false, List, [], ◌∷◌, length, replicate, refl, ◌∙◌, subst, arith, ⊎_elim, Some}
use Rattle.std.specs.Prelude.{slice_get}
use Rattle.std.proofs.Math.ListN.{set, length-set, length-replicate}
use Rattle.std.proofs.lemmas.Bool.{cases_Bool}
use Rattle.std.proofs.lemmas.List.{get_or-set_same}
use Rattle.guppy_search.specs.IxSet.{has, member_count}
use Rattle.guppy_search.proofs.Members.{member_count-set, member_count-replicate, member_count-le-length, has-replicate}
use Rattle.guppy_core.proofs.Inserts.{has-set_kept, has-set_cases}
use Rattle.guppy_core.specs.Listing.{Stands, IsOnce}

-- the set with those of the list put in
abbrev mark_all : List Bool → List ℕ → List Bool
mark_all s [] = s
mark_all s (x ∷ xs) = mark_all (set s x true) xs

length-mark_all : (xs : List ℕ) (s : List Bool) → length (mark_all s xs) ≡ length s
length-mark_all [] s = refl
length-mark_all (x ∷ xs) s = length-mark_all xs (set s x true) ∙ length-set s x true

has-mark_all : (xs : List ℕ) (s : List Bool) (p : ℕ) → has s p ≡ true → has (mark_all s xs) p ≡ true
has-mark_all [] s p h = h
has-mark_all (x ∷ xs) s p h = has-mark_all xs (set s x true) p (has-set_kept s x p h)

marked_all : (xs : List ℕ) (s : List Bool) → ((i x : ℕ) → slice_get xs i ≡ Some x → x < length s) → (i p : ℕ) → slice_get xs i ≡ Some p → has (mark_all s xs) p ≡ true
marked_all [] s below i p a = absurd (cc)
marked_all (x ∷ xs) s below zero p a =
    let e : x ≡ p = cc in
    has-mark_all xs (set s x true) p (subst (λ z. has (set s x true) z ≡ true) e (get_or-set_same s x true false (below zero x refl)))
marked_all (x ∷ xs) s below (suc i) p a = marked_all xs (set s x true) (λ j y b. let l = below (suc j) y b in let e = length-set s x true in omega arith) i p a

apart_at : (xs : List ℕ) (x : ℕ) → IsOnce (x ∷ xs) → (i : ℕ) → slice_get xs i ≡ Some x → ⊥
apart_at xs x once i a = absurd (let e = once zero (suc i) x refl a in omega arith)

once_tail : (xs : List ℕ) (x : ℕ) → IsOnce (x ∷ xs) → IsOnce xs
once_tail xs x once i j y a b = let e = once (suc i) (suc j) y a b in omega arith

count-mark_all : (xs : List ℕ) (s : List Bool) → IsOnce xs → ((i x : ℕ) → slice_get xs i ≡ Some x → (x < length s) × (has s x ≡ false)) → member_count (mark_all s xs) ≡ member_count s + length xs
count-mark_all [] s once new = omega arith
count-mark_all (x ∷ xs) s once new =
    let first = new zero x refl in
    let one = member_count-set s x first.0 first.1 in
    let rest = count-mark_all xs (set s x true) (once_tail xs x once) (λ i y a.
    let n = new (suc i) y a in (
      (let l = n.0 in let e = length-set s x true in omega arith),
      ⊎_elim
          (λ t. absurd (⊎_elim (λ e. apart_at xs x once i (subst (λ z. slice_get xs i ≡ Some z) e a)) (λ o. absurd (let f = n.1 in cc)) (has-set_cases s x y t)))
          (λ f. f)
          (cases_Bool (has (set s x true) y)),
    )) in
    omega arith

count-full : (s : List Bool) → ((p : ℕ) → p < length s → has s p ≡ true) → member_count s ≡ length s
count-full [] full = refl
count-full (true ∷ s) full = let r = count-full s (λ p l. full (suc p) (omega arith)) in omega arith
count-full (false ∷ s) full = absurd (let h = full zero (omega arith) in cc)

-- a list with each number below n once, and no other, has the length n
pub length_of_all : (n : ℕ) (xs : List ℕ) → IsOnce xs → ((i x : ℕ) → slice_get xs i ≡ Some x → x < n) → ((p : ℕ) → p < n → Stands xs p) → length xs ≡ n
length_of_all n xs once below all =
    let s : List Bool = replicate n false in
    let len = length-replicate n false in
    let below' : (i x : ℕ) → slice_get xs i ≡ Some x → x < length (replicate n false) = λ i x a. let l = below i x a in omega arith in
    let a = count-mark_all xs (replicate n false) once (λ i x q. (below' i x q, has-replicate n x)) in
    let m = length-mark_all xs (replicate n false) in
    let b = count-full (mark_all (replicate n false) xs) (λ p l. let t = all p (omega arith) in marked_all xs (replicate n false) below' t.0 p t.1) in
    let z = member_count-replicate n in
    omega arith

-- a list with numbers below n, each once, is no longer than n
pub length_of_once : (n : ℕ) (xs : List ℕ) → IsOnce xs → ((i x : ℕ) → slice_get xs i ≡ Some x → x < n) → length xs ≤ n
length_of_once n xs once below =
    let len = length-replicate n false in
    let a = count-mark_all xs (replicate n false) once (λ i x q. (let l = below i x q in omega arith, has-replicate n x)) in
    let m = length-mark_all xs (replicate n false) in
    let few = member_count-le-length (mark_all (replicate n false) xs) in
    omega arith
