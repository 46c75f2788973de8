-- The positions at which something holds, collected one after another.
use Rattle.std.proofs.Common.{◌≡◌, ◌⊎◌, inl, inr, sym, subst, ⊎_elim, ℕ, ◌+◌, ◌<◌, List, [], ◌∷◌, ◌++◌, arith}
use Rattle.std.specs.Prelude.{◌↔◌}
use Rattle.std.specs.List.{Contains}
use Rattle.std.proofs.lemmas.Bool.{cases_lt}
use Rattle.std.proofs.lemmas.List.Elements.{Contains-append_left, Contains-push, Contains-push_cases}

-- the list has exactly the positions below k at which P holds
abbrev pub AreBelow : (ℕ → Type 0) → List ℕ → ℕ → Type 0
AreBelow P xs k = (p : ℕ) → Contains xs p ↔ ((p < k) × P p)

below_or_last : (p k : ℕ) → p < k + 1 → (p < k) ⊎ (p ≡ k)
below_or_last p k h = ⊎_elim (λ less. inl less) (λ more. inr (omega arith)) (cases_lt p k)

module _ (P : ℕ → Type 0) (xs : List ℕ) (k : ℕ) (are : AreBelow P xs k) where
  pub AreBelow-push : P k → AreBelow P (xs ++ k ∷ []) (k + 1)
  AreBelow-push holds p = (
    λ h. ⊎_elim
        (λ before. let at = (are p).0 before in let less = at.0 in (omega arith, at.1))
        (λ last. (omega arith, subst P last holds))
        (Contains-push_cases xs k p h),
    λ at. elim (below_or_last p k at.0) [
      | inl less ↦ Contains-append_left xs (k ∷ []) p ((are p).1 (less, at.1))
      | inr same ↦ subst (λ q. Contains (xs ++ k ∷ []) q) (sym same) (Contains-push xs k)
    ],
  )

  pub AreBelow-skip : (P k → ⊥) → AreBelow P xs (k + 1)
  AreBelow-skip fails p = (
    λ h. let at = (are p).0 h in let less = at.0 in (omega arith, at.1),
    λ at. elim (below_or_last p k at.0) [
      | inl less ↦ (are p).1 (less, at.1)
      | inr same ↦ absurd (fails (subst P same at.1))
    ],
  )

  -- where P holds below k alone
  pub AreBelow-end : ((p : ℕ) → P p → p < k) → (p : ℕ) → Contains xs p ↔ P p
  AreBelow-end within p = (λ h. ((are p).0 h).1, λ holds. (are p).1 (within p holds, holds))
