-- A search for what steps reach, with a stack.
use Rattle.std.proofs.Common.{◌≡◌, ◌⊎◌, ◌↔◌, ℕ, ◌+◌, ◌-◌, ◌*◌, ◌<◌, ◌≤◌, Bool, true, false, List, [], ◌∷◌, ◌++◌, length, sym, ◌∙◌, arith, inl, inr, ⊎_elim, subst, length-append}
use Rattle.std.proofs.Math.ListN.{set, length-set}
use Rattle.std.specs.Prelude.{Contains}
use Rattle.std.proofs.lemmas.List.{get_or-set_same}
use Rattle.std.proofs.lemmas.List.Elements.{Contains-append_left, Contains-push, Contains-push_cases}
use Rattle.guppy_search.specs.Reach.{Walk, here, step, ReachedFrom}
use Rattle.guppy_search.specs.IxSet.{has, member_count}
use Rattle.guppy_core.specs.Mark.{Marks}
use Rattle.guppy_search.proofs.Members.{member_count-set, member_count-lt-length}
use Rattle.guppy_core.proofs.Inserts.{has-set_kept, has-set_cases}

-- each step from q leads to a position that was seen
abbrev pub ClosedAt : (ℕ → ℕ → Type 0) → List Bool → ℕ → Type 0
ClosedAt R seen q = (r : ℕ) → R q r → has seen r ≡ true

-- a search for what R reaches from the starts, whose open positions are those being worked on
pub record Reaching (R : ℕ → ℕ → Type 0) (IsStart IsOpen : ℕ → Type 0) (limit : ℕ) (seen : List Bool) (stack : List ℕ) : Type 0 where
  pub limit_is : length seen ≡ limit
  pub stacked : (q : ℕ) → Contains stack q → has seen q ≡ true
  pub sound : (q : ℕ) → has seen q ≡ true → ReachedFrom R IsStart q
  pub pending : (q : ℕ) → has seen q ≡ true → Contains stack q ⊎ (IsOpen q ⊎ ClosedAt R seen q)

-- what the search may still do
abbrev pub fuel : List Bool → List ℕ → ℕ
fuel seen stack = 2 * (length seen - member_count seen) + length stack

-- what one mark does
pub record Marked (R : ℕ → ℕ → Type 0) (IsStart IsOpen : ℕ → Type 0) (limit p : ℕ) (seen : List Bool) (stack : List ℕ) (seen' : List Bool) (stack' : List ℕ) : Type 0 where
  pub searching : Reaching R IsStart IsOpen limit seen' stack'
  pub now_in : has seen' p ≡ true
  pub grows : (q : ℕ) → has seen q ≡ true → has seen' q ≡ true
  pub less : fuel seen' stack' ≤ fuel seen stack

module _ (R : ℕ → ℕ → Type 0) (IsStart : ℕ → Type 0) where
  module _ (IsOpen : ℕ → Type 0) (limit p : ℕ) (seen : List Bool) (stack : List ℕ) (s : Reaching R IsStart IsOpen limit seen stack) where
    marked_old : has seen p ≡ true → Marked R IsStart IsOpen limit p seen stack seen stack
    marked_old h = record { searching = s; now_in = h; grows = λ q k. k; less = omega arith }

    marked_new : p < limit → ReachedFrom R IsStart p → has seen p ≡ false → Marked R IsStart IsOpen limit p seen stack (set seen p true) (stack ++ p ∷ [])
    marked_new below reached lacks =
        let same = s.limit_is in
        let within : p < length seen = omega arith in
        let now_in : has (set seen p true) p ≡ true = get_or-set_same seen p true false within in
        record {
          searching = record {
            limit_is = length-set seen p true ∙ same;
            stacked = λ q h. ⊎_elim (λ k. has-set_kept seen p q (s.stacked q k)) (λ e. subst (λ z. has (set seen p true) z ≡ true) e now_in) (Contains-push_cases stack p q h);
            sound = λ q h. ⊎_elim (λ e. subst (λ z. ReachedFrom R IsStart z) (sym e) reached) (λ k. s.sound q k) (has-set_cases seen p q h);
            pending = λ q h. ⊎_elim
                (λ e. inl (subst (λ z. Contains (stack ++ p ∷ []) z) (sym e) (Contains-push stack p)))
                (λ k. ⊎_elim
                (λ c. inl (Contains-append_left stack (p ∷ []) q c))
                (λ o. inr (⊎_elim (λ i. inl i) (λ c. inr (λ r t. has-set_kept seen p r (c r t))) o))
                (s.pending q k))
                (has-set_cases seen p q h);
          };
          now_in = now_in;
          grows = λ q k. has-set_kept seen p q k;
          less =
              let more = member_count-set seen p within lacks in
              let room = member_count-lt-length seen p within lacks in
              omega (arith, length-set seen p true, length-append stack (p ∷ []));
        }

    -- one more was marked, which the start reaches
    pub marked : p < limit → ReachedFrom R IsStart p → (seen' : List Bool) (stack' : List ℕ) → Marks p seen stack seen' stack' → Marked R IsStart IsOpen limit p seen stack seen' stack'
    marked below reached seen' stack' m =
        ⊎_elim
        (λ e. rw (e.1, e.2) (marked_old e.0))
        (λ e. rw (e.1, e.2) (marked_new below reached e.0))
        m

  module _ (limit : ℕ) (seen : List Bool) where
    -- nothing is seen yet
    pub none_seen : length seen ≡ limit → ((q : ℕ) → has seen q ≡ false) → Reaching R IsStart (λ _. ⊥) limit seen []
    none_seen same none = record {
      limit_is = same;
      stacked = λ q h. absurd (omega (arith, h.1));
      sound = λ q h. absurd (let f = none q in cc);
      pending = λ q h. absurd (let f = none q in cc);
    }

    -- x leaves the stack, and is open
    pub opened : (stack : List ℕ) (x : ℕ) → Reaching R IsStart (λ _. ⊥) limit seen (stack ++ x ∷ []) → Reaching R IsStart (λ q. q ≡ x) limit seen stack
    opened stack x s = record {
      limit_is = s.limit_is;
      stacked = λ q h. s.stacked q (Contains-append_left stack (x ∷ []) q h);
      sound = s.sound;
      pending = λ q h. ⊎_elim
          (λ c. ⊎_elim (λ k. inl k) (λ e. inr (inl (sym e))) (Contains-push_cases stack x q c))
          (λ o. inr (⊎_elim (λ b. absurd b) (λ c. inr c) o))
          (s.pending q h);
    }

    -- each step from x was taken
    pub finished : (stack : List ℕ) (x : ℕ) → Reaching R IsStart (λ q. q ≡ x) limit seen stack → ClosedAt R seen x → Reaching R IsStart (λ _. ⊥) limit seen stack
    finished stack x s closed = record {
      limit_is = s.limit_is;
      stacked = s.stacked;
      sound = s.sound;
      pending = λ q h. ⊎_elim
          (λ c. inl c)
          (λ o. inr (inr (⊎_elim (λ e. subst (λ z. ClosedAt R seen z) (sym e) closed) (λ c. c) o)))
          (s.pending q h);
    }

    walk_seen : ((q : ℕ) → has seen q ≡ true → ClosedAt R seen q) → {a b : ℕ} → Walk R a b → has seen a ≡ true → has seen b ≡ true
    walk_seen closed here h = h
    walk_seen closed (step w r) h = closed _ (walk_seen closed w h) _ r

    -- the stack is empty: what was seen is what is reached
    pub complete : (stack : List ℕ) → length stack ≡ 0 → Reaching R IsStart (λ _. ⊥) limit seen stack → ((q : ℕ) → IsStart q → has seen q ≡ true) → (p : ℕ) → (has seen p ≡ true) ↔ ReachedFrom R IsStart p
    complete stack none s starts p = (
      s.sound p,
      λ r. walk_seen (λ q h. ⊎_elim (λ c. absurd (let k = c.1 in omega arith)) (λ o. ⊎_elim (λ b. absurd b) (λ c. c) o) (s.pending q h)) r.2 (starts r.0 r.1),
    )
