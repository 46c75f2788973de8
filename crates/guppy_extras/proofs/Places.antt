-- Places of a list that grows.
use Rattle.std.proofs.Common.{◌≡◌, ◌⊎◌, ℕ, zero, suc, List, [], ◌∷◌, ◌++◌, length, inl, inr, refl, ap, Some}
use Rattle.std.specs.Prelude.{slice_get}

module _ {A : Type 0} where
  -- what stood there still does
  pub at_left : (xs : List A) (y : A) (k : ℕ) (x : A) → slice_get xs k ≡ Some x → slice_get (xs ++ y ∷ []) k ≡ Some x
  at_left [] y k x at = absurd (cc)
  at_left (z ∷ xs) y zero x at = at
  at_left (z ∷ xs) y (suc k) x at = at_left xs y k x at

  -- the new one stands last
  pub at_last : (xs : List A) (y : A) → slice_get (xs ++ y ∷ []) (length xs) ≡ Some y
  at_last [] y = refl
  at_last (z ∷ xs) y = at_last xs y

  pub at_cases : (xs : List A) (y : A) (k : ℕ) (x : A) → slice_get (xs ++ y ∷ []) k ≡ Some x → (slice_get xs k ≡ Some x) ⊎ ((k ≡ length xs) × (y ≡ x))
  at_cases [] y zero x at = inr (refl, cc)
  at_cases [] y (suc k) x at = absurd (cc)
  at_cases (z ∷ xs) y zero x at = inl at
  at_cases (z ∷ xs) y (suc k) x at = elim (at_cases xs y k x at) [ inl h ↦ inl h | inr h ↦ inr (ap suc h.0, h.1) ]
