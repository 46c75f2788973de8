-- The members of a set after one insert.
use Rattle.std.proofs.Common.{◌≡◌, ◌⊎◌, ℕ, suc, zero, Bool, true, List, [], ◌∷◌, refl, sym, inl, inr}
use Rattle.std.proofs.Math.ListN.{set}
use Rattle.guppy_search.specs.IxSet.{has}
use Rattle.guppy_search.proofs.Members.{member-set_cases}

-- who was in the set still is
pub has-set_kept : (s : List Bool) (p q : ℕ) → has s q ≡ true → has (set s p true) q ≡ true
has-set_kept [] p q h = h
has-set_kept (x ∷ s) zero zero h = refl
has-set_kept (x ∷ s) zero (suc q) h = h
has-set_kept (x ∷ s) (suc p) zero h = h
has-set_kept (x ∷ s) (suc p) (suc q) h = has-set_kept s p q h

-- who is in it now is the new one, or was in it
pub has-set_cases : (s : List Bool) (p q : ℕ) → has (set s p true) q ≡ true → (q ≡ p) ⊎ (has s q ≡ true)
has-set_cases s p q h = elim (member-set_cases s p q h) [ inl i ↦ inr i | inr e ↦ inl (sym e) ]
