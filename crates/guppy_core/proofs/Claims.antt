-- One component after another is claimed.
use Rattle.std.proofs.Common.{◌≡◌, ◌⊎◌, ◌↔◌, ℕ, ◌<◌, Bool, true, false, List, [], length, get_or, refl, sym, ◌∙◌, subst, arith, inl, inr, ⊎_elim}
use Rattle.std.proofs.Math.ListN.{set, length-set}
use Rattle.std.proofs.lemmas.Bool.{false_from_ne_true}
use Rattle.std.proofs.lemmas.List.{get_or-set_same, get_or-set_other}
use Rattle.guppy_search.specs.Reach.{Walk, here, step}
use Rattle.guppy_search.specs.IxSet.{has}
use Rattle.guppy_core.specs.Mark.{Marks}
use Rattle.guppy_core.proofs.StackSearch.{Reaching, marked, complete}
use Rattle.guppy_core.proofs.Inserts.{has-set_cases, has-set_kept}
use Rattle.guppy_core.proofs.RowTurns.{Between}
use Rattle.guppy_core.specs.Claim.{IsClosed, Numbers, Claims}

-- where the search starts: in the set as it was, or at the start
abbrev pub From : List Bool → ℕ → ℕ → Type 0
From s start a = (has s a ≡ true) ⊎ (a ≡ start)

-- the numbers while positions are claimed
pub record Numbering (n number : ℕ) (s : List Bool) (numbers : List ℕ) (s' : List Bool) (numbers' : List ℕ) : Type 0 where
  pub count : length numbers' ≡ n
  pub limit : length s' ≡ n
  pub grows : (q : ℕ) → has s q ≡ true → has s' q ≡ true
  pub claims : Claims number s numbers s' numbers'

-- nobody was claimed yet
pub numbering_first : (n number : ℕ) (s : List Bool) (numbers : List ℕ) → length s ≡ n → length numbers ≡ n → Numbering n number s numbers s numbers
numbering_first n number s numbers e f = record { count = f; limit = e; grows = λ q h. h; claims = λ q h. inl (h, refl) }

-- one more was claimed, if it was new
pub numbering_more : (n number : ℕ) (s : List Bool) (numbers : List ℕ) (s' : List Bool) (numbers' : List ℕ) → Numbering n number s numbers s' numbers' → (p : ℕ) → p < n → (stack stack' : List ℕ) (s'' : List Bool) (numbers'' : List ℕ) → Marks p s' stack s'' stack' → Numbers p number s' numbers' numbers'' → Numbering n number s numbers s'' numbers''
numbering_more n number s numbers s' numbers' m p below stack stack' s'' numbers'' marks num =
    ⊎_elim
    (λ a. ⊎_elim
    (λ b. rw (a.1, b.1) m)
    (λ b. absurd (let i = a.0 in let o = b.0 in cc))
    num)
    (λ a. ⊎_elim
    (λ b. absurd (let i = a.0 in let o = b.0 in cc))
    (λ b.
    let low : p < length numbers' = let e = m.count in omega arith in
    rw (a.1, b.1) (record {
      count = length-set numbers' p number ∙ m.count;
      limit = length-set s' p true ∙ m.limit;
      grows = λ q h. has-set_kept s' p q (m.grows q h);
      claims = λ q h. ⊎_elim
          (λ e. inr (
            false_from_ne_true (has s q) (λ i. absurd (let i' = m.grows q i in let o : has s' q ≡ false = subst (λ z. has s' z ≡ false) (sym e) a.0 in cc)),
            subst (λ z. get_or (set numbers' p number) z 0 ≡ number) (sym e) (get_or-set_same numbers' p number 0 low),
          ))
          (λ old.
          let apart : q ≡ p → ⊥ = λ e. absurd (let o : has s' q ≡ false = subst (λ z. has s' z ≡ false) (sym e) a.0 in cc) in
          let same : get_or (set numbers' p number) q 0 ≡ get_or numbers' q 0 = get_or-set_other numbers' p q number 0 apart in
          ⊎_elim (λ c. inl (c.0, same ∙ c.1)) (λ c. inr (c.0, same ∙ c.1)) (m.claims q old))
          (has-set_cases s' p q h);
    }))
    num)
    marks

module _ (R : ℕ → ℕ → Type 0) (n : ℕ) (s : List Bool) (start : ℕ) (limit : length s ≡ n) (closed : IsClosed R s) where
  -- the set as it was
  before : Reaching R (From s start) (λ _. ⊥) n s []
  before = record {
    limit_is = limit;
    stacked = λ q h. absurd (let l = h.1 in omega arith);
    sound = λ q h. (q, inl h, here);
    pending = λ q h. inr (inr (λ r t. closed q r h t));
  }

  -- the start alone was claimed
  pub between_first : start < n → (s' : List Bool) (stack' : List ℕ) → Marks start s [] s' stack' → Between R (From s start) n s' stack'
  between_first below s' stack' m =
      let after = marked R (From s start) (λ _. ⊥) n start s [] before below (start, inr refl, here) s' stack' m in
      record {
        searching = after.searching;
        starts = λ q f. ⊎_elim (λ h. after.grows q h) (λ e. subst (λ z. has s' z ≡ true) (sym e) after.now_in) f;
      }

  along : {a b : ℕ} → Walk R a b → has s a ≡ true → has s b ≡ true
  along here h = h
  along (step w r) h = closed _ _ (along w h) r

  -- the stack is empty
  pub claimed : (s' : List Bool) (stack : List ℕ) → length stack ≡ 0 → Between R (From s start) n s' stack → (q : ℕ) → (has s' q ≡ true) ↔ ((has s q ≡ true) ⊎ Walk R start q)
  claimed s' stack none b q =
      let all = complete R (From s start) n s' stack none b.searching b.starts q in (
        λ h. let r = all.0 h in ⊎_elim (λ i. inl (along r.2 i)) (λ e. inr (subst (λ z. Walk R z q) e r.2)) r.1,
        λ o. ⊎_elim (λ h. b.starts q (inl h)) (λ w. all.1 (start, inr refl, w)) o,
      )
