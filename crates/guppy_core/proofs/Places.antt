-- Places in a list that grows at its end.
use Rattle.std.proofs.Common.{◌≡◌, ◌⊎◌, ℕ, suc, zero, List, [], ◌∷◌, ◌++◌, length, refl, sym, ap, inl, inr, ⊎_elim, subst, Some}
use Rattle.std.specs.Prelude.{slice_get}
use Rattle.guppy_core.specs.Listing.{Stands}

-- places in a list that grows at its end
pub at_left : (xs : List ℕ) (y i x : ℕ) → slice_get xs i ≡ Some x → slice_get (xs ++ y ∷ []) i ≡ Some x
at_left [] y i x h = absurd (cc)
at_left (z ∷ xs) y zero x h = h
at_left (z ∷ xs) y (suc i) x h = at_left xs y i x h

-- the last stands behind the others
pub at_last : (xs : List ℕ) (y : ℕ) → slice_get (xs ++ y ∷ []) (length xs) ≡ Some y
at_last [] y = refl
at_last (z ∷ xs) y = at_last xs y

-- who stands in the longer list stood in it before, or is the last
pub at_cases : (xs : List ℕ) (y i x : ℕ) → slice_get (xs ++ y ∷ []) i ≡ Some x → (slice_get xs i ≡ Some x) ⊎ ((i ≡ length xs) × (x ≡ y))
at_cases [] y zero x h = inr (refl, cc)
at_cases [] y (suc i) x h = absurd (cc)
at_cases (z ∷ xs) y zero x h = inl h
at_cases (z ∷ xs) y (suc i) x h = ⊎_elim (λ e. inl e) (λ e. inr (ap suc e.0, e.1)) (at_cases xs y i x h)

pub stands_left : (xs : List ℕ) (y x : ℕ) → Stands xs x → Stands (xs ++ y ∷ []) x
stands_left xs y x s = (s.0, at_left xs y s.0 x s.1)

pub stands_last : (xs : List ℕ) (y x : ℕ) → x ≡ y → Stands (xs ++ y ∷ []) x
stands_last xs y x e = (length xs, subst (λ z. slice_get (xs ++ y ∷ []) (length xs) ≡ Some z) (sym e) (at_last xs y))

pub stands_cases : (xs : List ℕ) (y x : ℕ) → Stands (xs ++ y ∷ []) x → Stands xs x ⊎ (x ≡ y)
stands_cases xs y x s = ⊎_elim (λ e. inl (s.0, e)) (λ e. inr e.1) (at_cases xs y s.0 x s.1)
