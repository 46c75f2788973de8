-- The positions in a set, from one on.
use Rattle.std.proofs.Common.{◌≡◌, ℕ, zero, suc, ◌+◌, ◌≤◌, inl, inr, Bool, true, false, List, [], ◌∷◌, length, drop, refl, arith}
use Rattle.std.specs.Prelude.{Contains}
use Rattle.std.proofs.lemmas.List.{at_drop_all}
use Rattle.guppy_search.specs.IxSet.{IsIn, member_count, positions_from}
use Rattle.guppy_search.proofs.Lists.{nothing_in, Contains-later, Contains-cons_cases}

-- there are as many as the set has members
pub length-positions_from : (i : ℕ) (s : List Bool) → length (positions_from i s) ≡ member_count s
length-positions_from i [] = refl
length-positions_from i (true ∷ s) = omega (arith, length-positions_from (i + 1) s)
length-positions_from i (false ∷ s) = length-positions_from (i + 1) s

-- past the last position there is none
pub positions_from-end : (s : List Bool) (p : ℕ) → length s ≤ p → positions_from p (drop p s) ≡ []
positions_from-end s p h = at_drop_all (positions_from p) s p h

-- each of them is in the set
pub positions_from-are : (i : ℕ) (s : List Bool) (p : ℕ) → Contains (positions_from i s) p → (k : ℕ) × (p ≡ i + k) × IsIn s k
positions_from-are i [] p h = absurd (nothing_in p h)
positions_from-are i (true ∷ s) p h = elim (Contains-cons_cases i p (positions_from (i + 1) s) h) [
  | inl e ↦ (0, omega arith, refl)
  | inr c ↦ let r = positions_from-are (i + 1) s p c in (suc r.0, let e = r.1 in omega arith, r.2)
]
positions_from-are i (false ∷ s) p h = let r = positions_from-are (i + 1) s p h in (suc r.0, let e = r.1 in omega arith, r.2)

-- each position in the set is among them
pub positions_from-have : (i : ℕ) (s : List Bool) (k p : ℕ) → p ≡ i + k → IsIn s k → Contains (positions_from i s) p
positions_from-have i [] k p e h = absurd (cc)
positions_from-have i (true ∷ s) zero p e h = let q : i ≡ p = omega arith in (0, omega arith, q)
positions_from-have i (false ∷ s) zero p e h = absurd (cc)
positions_from-have i (true ∷ s) (suc k) p e h = let later : p ≡ i + 1 + k = omega arith in Contains-later i p _ (positions_from-have (i + 1) s k p later h)
positions_from-have i (false ∷ s) (suc k) p e h = let later : p ≡ i + 1 + k = omega arith in positions_from-have (i + 1) s k p later h
