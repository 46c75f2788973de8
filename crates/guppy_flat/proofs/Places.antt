-- Lists of positions, place by place.
use Rattle.std.proofs.Common.{◌≡◌, ◌↔◌, ℕ, ◌-◌, ◌<◌, Bool, true, false, List, length, take, Some, refl, sym, subst, ◌∙◌, arith}
use Rattle.std.specs.Prelude.{not, slice_get}
use Rattle.std.proofs.lemmas.List.{take_all}
use Rattle.guppy_core.specs.Listing.{Stands}
use Rattle.guppy_flat.specs.Ordering.{IsWithPrevious}

-- what stands at the front is all, where the list is no longer
pub all_written : (n : ℕ) (xs ys : List ℕ) → take n xs ≡ ys → length xs ≡ n → xs ≡ ys
all_written n xs ys front long = sym (take_all n xs (omega arith)) ∙ front

pub not_false : (b : Bool) → (not b ≡ false) ↔ (b ≡ true)
not_false true = (λ h. refl, λ h. refl)
not_false false = (λ h. absurd (cc), λ h. absurd (cc))

-- a place is one with the place before it where what stands there is
pub with_previous : (Same : ℕ → ℕ → Type 0) (list : List ℕ) (place a b : ℕ) → 0 < place → slice_get list (place - 1) ≡ Some a → slice_get list place ≡ Some b → IsWithPrevious Same list place ↔ Same a b
with_previous Same list place a b after at_a at_b = (
  λ w.
      let e : w.before ≡ place - 1 = let n = w.next in omega arith in
      let first_at = subst (λ z. slice_get list z ≡ Some w.first) e w.first_at in
      let second_at = w.second_at in
      let same_first : w.first ≡ a = cc in
      let same_second : w.second ≡ b = cc in
      subst (λ z. Same z b) same_first (subst (λ z. Same w.first z) same_second w.same),
  λ s. record { before = place - 1; first = a; second = b; next = omega arith; first_at = at_a; second_at = at_b; same = s },
)

-- the same by another relation
pub with_previous-along : (Same Other : ℕ → ℕ → Type 0) (list : List ℕ) (place : ℕ) → ((x y : ℕ) → Stands list x → Stands list y → Same x y → Other x y) → IsWithPrevious Same list place → IsWithPrevious Other list place
with_previous-along Same Other list place follows w = record {
  before = w.before;
  first = w.first;
  second = w.second;
  next = w.next;
  first_at = w.first_at;
  second_at = w.second_at;
  same = follows w.first w.second (w.before, w.first_at) (place, w.second_at) w.same;
}
