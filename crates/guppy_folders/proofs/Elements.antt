-- Elements of lists.
use Rattle.std.proofs.Common.{◌≡◌, ◌⊎◌, inl, inr, ⊎_elim, refl, sym, subst, zero, suc, List, [], ◌∷◌, ◌++◌, Contains, arith}
use Rattle.std.specs.Prelude.{◌↔◌}
use Rattle.std.proofs.lemmas.List.Elements.{Contains-append_cases, Contains-append_left, Contains-append_right}

module _ {X : Type 0} where
  -- a list of one has that one
  pub from_one : (x y : X) → Contains (x ∷ []) y → x ≡ y
  from_one x y (zero, within, same) = same
  from_one x y (suc k, within, same) = absurd (omega arith)

  pub here_first : (x : X) (xs : List X) → Contains (x ∷ xs) x
  here_first x xs = (zero, omega arith, refl)

  -- P holds of one of the elements
  abbrev pub One : List X → (X → Type 0) → Type 0
  One xs P = (x : X) × Contains xs x × P x

  pub One-none : (P : X → Type 0) → One [] P → ⊥
  One-none P (x, (k, within, same), h) = absurd (omega arith)

  -- with one more element
  pub One-push : (P : X → Type 0) (xs : List X) (x : X) → One (xs ++ x ∷ []) P ↔ (One xs P ⊎ P x)
  One-push P xs x = (
    λ (y, there, h). ⊎_elim (λ early. inl (y, early, h)) (λ late. inr (subst P (sym (from_one x y late)) h)) (Contains-append_cases xs (x ∷ []) y there),
    λ either. ⊎_elim (λ (y, there, h). (y, Contains-append_left xs (x ∷ []) y there, h)) (λ h. (x, Contains-append_right xs (x ∷ []) x (here_first x []), h)) either,
  )
