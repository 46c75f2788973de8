-- A set that grows, row by row, by what each row names.
use Rattle.std.proofs.Common.{◌≡◌, ◌⊎◌, ◌↔◌, ℕ, ◌+◌, ◌<◌, Bool, true, false, List, length, replicate, refl, sym, ◌∙◌, subst, arith, inl, inr, ⊎_elim}
use Rattle.std.proofs.Math.ListN.{set, length-set}
use Rattle.std.proofs.lemmas.Bool.{cases_lt}
use Rattle.std.proofs.lemmas.List.{get_or-set_same}
use Rattle.guppy_search.specs.IxSet.{IsIn}
use Rattle.guppy_search.proofs.Members.{has-replicate}
use Rattle.guppy_core.proofs.Inserts.{has-set_kept, has-set_cases}

-- one of the rows below i names p
abbrev pub IsNamed : (ℕ → ℕ → Type 0) → ℕ → ℕ → Type 0
IsNamed names i p = (k : ℕ) × (k < i) × names k p

-- the set old, and what the rows below i name
pub record Gathered (names : ℕ → ℕ → Type 0) (old : List Bool) (i : ℕ) (s : List Bool) : Type 0 where
  pub size : length s ≡ length old
  pub members : (p : ℕ) → IsIn s p ↔ (IsIn old p ⊎ IsNamed names i p)

-- no row was taken
pub gathered_none : (names : ℕ → ℕ → Type 0) (s : List Bool) → Gathered names s 0 s
gathered_none names s = record {
  size = refl;
  members = λ p. (inl, ⊎_elim (λ h. h) (λ t. absurd (let l = t.1 in omega arith)));
}

module _ {names : ℕ → ℕ → Type 0} {old : List Bool} (i : ℕ) (s : List Bool) (m : Gathered names old i s) where
  -- the next row was taken, and puts in what it names
  pub gathered_more : (s' : List Bool) → length s' ≡ length s → ((p : ℕ) → IsIn s' p ↔ (IsIn s p ⊎ names i p)) → Gathered names old (i + 1) s'
  gathered_more s' e adds = record {
    size = e ∙ m.size;
    members = λ p. (
      λ h. ⊎_elim
          (λ o. ⊎_elim inl (λ t. inr (t.0, (let l = t.1 in omega arith), t.2)) ((m.members p).0 o))
          (λ t. inr (i, omega arith, t))
          ((adds p).0 h),
      λ o. (adds p).1 (⊎_elim
          (λ h. inl ((m.members p).1 (inl h)))
          (λ t. ⊎_elim
          (λ less. inl ((m.members p).1 (inr (t.0, less, t.2))))
          (λ ge. let e : t.0 ≡ i = let l = t.1 in omega arith in inr (subst (λ z. names z p) e t.2))
          (cases_lt t.0 i))
          o),
    );
  }

  -- it names nothing
  pub gathered_skipped : ((p : ℕ) → names i p → ⊥) → Gathered names old (i + 1) s
  gathered_skipped none = gathered_more s refl (λ p. (inl, ⊎_elim (λ h. h) (λ t. absurd (none p t))))

  -- it names v alone
  pub gathered_one : (v : ℕ) → v < length s → ((p : ℕ) → names i p ↔ (p ≡ v)) → Gathered names old (i + 1) (set s v true)
  gathered_one v below only = gathered_more (set s v true) (length-set s v true) (λ p. (
    λ h. ⊎_elim (λ e. inr ((only p).1 e)) inl (has-set_cases s v p h),
    ⊎_elim (has-set_kept s v p) (λ t. subst (IsIn (set s v true)) (sym ((only p).0 t)) (get_or-set_same s v true false below)),
  ))

  -- all rows were taken
  pub gathered_all : (P : ℕ → Type 0) → ((p : ℕ) → P p ↔ IsNamed names i p) → (p : ℕ) → IsIn s p ↔ (IsIn old p ⊎ P p)
  gathered_all P all p = (
    λ h. ⊎_elim inl (λ t. inr ((all p).1 t)) ((m.members p).0 h),
    λ o. (m.members p).1 (⊎_elim inl (λ t. inr ((all p).0 t)) o),
  )

-- all rows were taken, from the empty set on
pub gathered_whole : (names : ℕ → ℕ → Type 0) (n i : ℕ) (s : List Bool) → Gathered names (replicate n false) i s → ((k p : ℕ) → names k p → k < i) → (p : ℕ) → IsIn s p ↔ ((k : ℕ) × names k p)
gathered_whole names n i s m below p = (
  λ h. ⊎_elim (λ o. absurd (let f = has-replicate n p in cc)) (λ t. (t.0, t.2)) ((m.members p).0 h),
  λ t. (m.members p).1 (inr (t.0, below t.0 p t.1, t.1)),
)
