-- A text has one cut at its first slash.
use Rattle.std.proofs.Common.{◌≡◌, ◌∙◌, ℕ, List, [], ◌∷◌, ◌++◌, codes, ap, refl, sym, subst}
use Rattle.guppy_data.specs.ExternalSource.{Lacks, IsCutAt}

heads : (x y : ℕ) (xs ys : List ℕ) → x ∷ xs ≡ y ∷ ys → x ≡ y
heads x y xs ys e = cc

tails : (x y : ℕ) (xs ys : List ℕ) → x ∷ xs ≡ y ∷ ys → xs ≡ ys
tails x y xs ys e = cc

module _ (c : ℕ) where
  lacks_tail : (x : ℕ) (text : List ℕ) → Lacks (c ∷ []) (x ∷ text) → Lacks (c ∷ []) text
  lacks_tail x text lacks before after e = lacks (x ∷ before) after (ap (λ l. x ∷ l) e)

  lacks_first : (x : ℕ) (text : List ℕ) → Lacks (c ∷ []) (x ∷ text) → x ≡ c → ⊥
  lacks_first x text lacks e = lacks [] text (ap (λ y. y ∷ text) e)

  pub cuts_same : (p q a b : List ℕ) → p ++ (c ∷ a) ≡ q ++ (c ∷ b) → Lacks (c ∷ []) p → Lacks (c ∷ []) q → (p ≡ q) × (a ≡ b)
  cuts_same [] [] a b e lp lq = (refl, tails c c a b e)
  cuts_same [] (y ∷ q) a b e lp lq = absurd (lacks_first y q lq (sym (heads c y a (q ++ (c ∷ b)) e)))
  cuts_same (x ∷ p) [] a b e lp lq = absurd (lacks_first x p lp (heads x c (p ++ (c ∷ a)) b e))
  cuts_same (x ∷ p) (y ∷ q) a b e lp lq =
      let rest = cuts_same p q a b (tails x y (p ++ (c ∷ a)) (q ++ (c ∷ b)) e) (lacks_tail x p lp) (lacks_tail y q lq) in
      (λ i. heads x y (p ++ (c ∷ a)) (q ++ (c ∷ b)) e i ∷ rest.0 i, rest.1)

-- what holds of a cut at a slash holds of the one there is
pub by_cut : (P : List ℕ → List ℕ → Type 0) (text x y : List ℕ) → IsCutAt (codes "/") text x y → ((a : List ℕ) × (b : List ℕ) × IsCutAt (codes "/") text a b × P a b) → P x y
by_cut P text x y cut h =
    let same = cuts_same 47 h.0 x h.1 y (sym h.2.0 ∙ cut.0) h.2.1 cut.1 in
    subst (λ (a : List ℕ). P a y) same.0 (subst (λ (b : List ℕ). P h.0 b) same.1 h.3)
