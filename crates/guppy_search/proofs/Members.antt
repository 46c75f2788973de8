-- How many positions a set has, and which.
use Rattle.std.proofs.Common.{◌≡◌, ◌⊎◌, ⊎_elim, ℕ, suc, zero, ◌+◌, ◌<◌, ◌≤◌, ◌^◌, Bool, true, false, List, [], ◌∷◌, ◌++◌, length, replicate, refl, sym, ap, ◌∙◌, subst, arith, inl, inr}
use Rattle.std.specs.Prelude.{◌↔◌, Contains}
use Rattle.std.proofs.Math.ListN.{set, length-replicate}
use Rattle.std.proofs.lemmas.Bool.{cases_eq}
use Rattle.std.proofs.lemmas.List.{get_or-set_same, get_or-set_other}
use Rattle.std.proofs.lemmas.List.Elements.{Contains-push, Contains-push_cases, Contains-append_left}
use Rattle.guppy_search.specs.IxSet.{has, IsIn, member_count}

pub member_count-replicate : (n : ℕ) → member_count (replicate n false) ≡ 0
member_count-replicate zero = refl
member_count-replicate (suc n) = member_count-replicate n

-- no more positions are in a set than there are
pub member_count-le-length : (s : List Bool) → member_count s ≤ length s
member_count-le-length [] = omega arith
member_count-le-length (true ∷ s) = omega (arith, member_count-le-length s)
member_count-le-length (false ∷ s) = omega (arith, member_count-le-length s)

-- a set that lacks a position is not full
pub member_count-lt-length : (s : List Bool) (p : ℕ) → p < length s → has s p ≡ false → member_count s < length s
member_count-lt-length [] p h lacks = omega arith
member_count-lt-length (true ∷ s) zero h lacks = absurd (cc)
member_count-lt-length (false ∷ s) zero h lacks = omega (arith, member_count-le-length s)
member_count-lt-length (true ∷ s) (suc p) h lacks =
    let h' : p < length s = omega arith in
    omega (arith, member_count-lt-length s p h' lacks)
member_count-lt-length (false ∷ s) (suc p) h lacks =
    let h' : p < length s = omega arith in
    omega (arith, member_count-lt-length s p h' lacks)

-- one more member
pub member_count-set : (s : List Bool) (p : ℕ) → p < length s → has s p ≡ false → member_count (set s p true) ≡ member_count s + 1
member_count-set [] p h lacks = absurd (omega arith)
member_count-set (true ∷ s) zero h lacks = absurd (cc)
member_count-set (false ∷ s) zero h lacks = omega arith
member_count-set (true ∷ s) (suc p) h lacks =
    let h' : p < length s = omega arith in
    omega (arith, member_count-set s p h' lacks)
member_count-set (false ∷ s) (suc p) h lacks =
    let h' : p < length s = omega arith in
    omega (arith, member_count-set s p h' lacks)

-- the empty set has no member
pub has-replicate : (n p : ℕ) → has (replicate n false) p ≡ false
has-replicate zero p = refl
has-replicate (suc n) zero = refl
has-replicate (suc n) (suc p) = has-replicate n p

-- p is put in
module _ (s : List Bool) (p : ℕ) where
  -- a member afterwards is p, or was one before
  pub member-set_cases : (q : ℕ) → IsIn (set s p true) q → IsIn s q ⊎ (p ≡ q)
  member-set_cases q h =
      ⊎_elim
      (λ e. inr (sym e))
      (λ e. inl (sym (get_or-set_other s p q true false e) ∙ h))
      (cases_eq q p)

  -- who was in the set still is
  pub member-set_keeps : (q : ℕ) → p < length s → IsIn s q → IsIn (set s p true) q
  member-set_keeps q within h =
      ⊎_elim
      (λ e. subst (IsIn (set s p true)) (sym e) (get_or-set_same s p true false within))
      (λ e. get_or-set_other s p q true false e ∙ h)
      (cases_eq q p)

  -- the members still fit an index
  pub fits-set : p < 2 ^ 32 → ((q : ℕ) → IsIn s q → q < 2 ^ 32) → (q : ℕ) → IsIn (set s p true) q → q < 2 ^ 32
  fits-set small fit q h = ⊎_elim (λ was. fit q was) (λ e. subst (λ z. z < 2 ^ 32) e small) (member-set_cases q h)

  -- the members are those of a list that grows by p
  pub members-set : (xs : List ℕ) → p < length s → ((q : ℕ) → IsIn s q ↔ Contains xs q) → (q : ℕ) → IsIn (set s p true) q ↔ Contains (xs ++ p ∷ []) q
  members-set xs within same q = (
    λ h. ⊎_elim
        (λ was. Contains-append_left xs (p ∷ []) q ((same q).0 was))
        (λ e. subst (Contains (xs ++ p ∷ [])) e (Contains-push xs p))
        (member-set_cases q h),
    λ h. ⊎_elim
        (λ was. member-set_keeps q within ((same q).1 was))
        (λ e. subst (IsIn (set s p true)) e (get_or-set_same s p true false within))
        (Contains-push_cases xs p q h),
  )

-- who is in the set is one of its positions
pub IsIn-below : (s : List Bool) (p : ℕ) → IsIn s p → p < length s
IsIn-below [] p h = absurd (cc)
IsIn-below (x ∷ s) zero h = omega arith
IsIn-below (x ∷ s) (suc p) h = omega (arith, IsIn-below s p h)

-- a set that has each position
pub all_members : (s : List Bool) → ((p : ℕ) → p < length s → IsIn s p) → s ≡ replicate (length s) true
all_members [] all = refl
all_members (x ∷ s) all =
    let first : x ≡ true = all 0 (omega arith) in
    let later = all_members s (λ p h. all (suc p) (omega arith)) in
    ap (λ b. b ∷ s) first ∙ ap (λ t. true ∷ t) later

-- of the set that has one position alone
pub only_member : (n p q : ℕ) → IsIn (set (replicate n false) p true) q → p ≡ q
only_member n p q h = elim (member-set_cases (replicate n false) p q h) [
  | inl i ↦ absurd (let e : true ≡ false = sym i ∙ has-replicate n q in cc)
  | inr e ↦ e
]

-- the position that was put into the empty set is in it
pub one_member : (n p : ℕ) → p < n → IsIn (set (replicate n false) p true) p
one_member n p within = get_or-set_same (replicate n false) p true false (rw (length-replicate n false) within)
