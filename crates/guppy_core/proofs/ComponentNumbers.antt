-- The second pass: numbers for the components.
use Rattle.std.proofs.Common.{◌≡◌, ◌⊎◌, ◌↔◌, ℕ, ◌+◌, ◌<◌, ◌≤◌, Bool, true, false, List, length, get_or, reverse, sym, ◌∙◌, subst, arith, inl, inr, ⊎_elim, Some}
use Rattle.std.specs.Prelude.{slice_get, Contains}
use Rattle.std.proofs.lemmas.Bool.{cases_lt, false_from_ne_true}
use Rattle.std.proofs.lemmas.List.{length-reverse, reverse-reverse}
use Rattle.std.proofs.lemmas.Option.{slice_get_within}
use Rattle.guppy_search.specs.Reach.{Walk, here, step}
use Rattle.guppy_search.proofs.Walks.{walk_on, walk_back}
use Rattle.guppy_search.specs.IxSet.{has}
use Rattle.guppy_core.specs.Finish.{IsFinishList}
use Rattle.guppy_core.specs.Listing.{Stands}
use Rattle.guppy_search.proofs.Members.{IsIn-below}
use Rattle.guppy_core.proofs.Listings.{stands_contains, at_reversed}
use Rattle.guppy_core.specs.Claim.{IsClosed, Claims}
use Rattle.guppy_core.specs.Components.{AreNumbers}

-- the state of the second pass: the first i of the order were seen, and who was seen has its number
pub record SecondPass (R B : ℕ → ℕ → Type 0) (n : ℕ) (order : List ℕ) (i : ℕ) (seen : List Bool) (numbers : List ℕ) (count : ℕ) : Type 0 where
  pub limit_is : length seen ≡ n
  pub length_is : length numbers ≡ n
  pub closed : IsClosed B seen
  pub taken : (k x : ℕ) → k < i → slice_get order k ≡ Some x → has seen x ≡ true
  pub below : (p : ℕ) → has seen p ≡ true → get_or numbers p 0 < count
  pub linked : (p q : ℕ) → has seen p ≡ true → has seen q ≡ true → get_or numbers p 0 ≡ get_or numbers q 0 → Walk R p q
  pub same : (p q : ℕ) → has seen p ≡ true → has seen q ≡ true → Walk R p q → Walk R q p → get_or numbers p 0 ≡ get_or numbers q 0
  pub steps : (p q : ℕ) → has seen p ≡ true → has seen q ≡ true → R p q → get_or numbers p 0 ≤ get_or numbers q 0
  pub each : (c : ℕ) → c < count → (p : ℕ) × (has seen p ≡ true) × (get_or numbers p 0 ≡ c)
  pub few : count ≤ i

module _ (R B : ℕ → ℕ → Type 0) (back : (x y : ℕ) → R x y → B y x) (forth : (x y : ℕ) → B x y → R y x) (n : ℕ) where
  along : (seen : List Bool) → IsClosed B seen → {x y : ℕ} → Walk B x y → has seen x ≡ true → has seen y ≡ true
  along seen closed here h = h
  along seen closed (step w r) h = closed _ _ (along seen closed w h) r

  -- nobody was numbered yet
  pub second_none : (order : List ℕ) (seen : List Bool) (numbers : List ℕ) → length seen ≡ n → length numbers ≡ n → ((p : ℕ) → has seen p ≡ false) → SecondPass R B n order 0 seen numbers 0
  second_none order seen numbers e f none =
      let no : (x : ℕ) → has seen x ≡ true → ⊥ = λ x h. absurd (let l = none x in cc) in
      record {
        limit_is = e;
        length_is = f;
        closed = λ x y h r. absurd (no x h);
        taken = λ k x l a. absurd (omega arith);
        below = λ p h. absurd (no p h);
        linked = λ p q h k e. absurd (no p h);
        same = λ p q h k v w. absurd (no p h);
        steps = λ p q h k r. absurd (no p h);
        each = λ c l. absurd (omega arith);
        few = omega arith;
      }

  module _ (IsStart : ℕ → Type 0) (F : List ℕ) (f : IsFinishList R IsStart F) (all : (p : ℕ) → p < n → Stands F p) (i : ℕ) (seen : List Bool) (numbers : List ℕ) (count : ℕ) (s : SecondPass R B n (reverse F) i seen numbers count) where
    -- all that an unseen one reaches is unseen
    unseen_along : (x y : ℕ) → Walk R x y → has seen x ≡ false → has seen y ≡ false
    unseen_along x y w lacks = false_from_ne_true (has seen y) (λ h. absurd (let t = along seen s.closed (walk_back R B back w) h in cc))

    -- the order's next was seen
    pub second_skipped : (r : ℕ) → slice_get (reverse F) i ≡ Some r → has seen r ≡ true → SecondPass R B n (reverse F) (i + 1) seen numbers count
    second_skipped r at r_in = record {
      limit_is = s.limit_is;
      length_is = s.length_is;
      closed = s.closed;
      taken = λ k x l a. ⊎_elim
          (λ less. s.taken k x less a)
          (λ ge. let e : k ≡ i = omega arith in let a' : slice_get (reverse F) i ≡ Some x = subst (λ z. slice_get (reverse F) z ≡ Some x) e a in let e' : r ≡ x = cc in subst (λ z. has seen z ≡ true) e' r_in)
          (cases_lt k i);
      below = s.below;
      linked = s.linked;
      same = s.same;
      steps = s.steps;
      each = s.each;
      few = let l = s.few in omega arith;
    }

    module _ (r : ℕ) (at : slice_get (reverse F) i ≡ Some r) (lacks : has seen r ≡ false) where
      -- an unseen one that reaches the next of the order is in its class: its root is that one
      in_class : (q : ℕ) → q < n → has seen q ≡ false → Walk R q r → Walk R r q
      in_class q below q_lacks w =
          let root = f.rooted q (all q below) in
          let root_lacks = unseen_along q root.root root.to_root q_lacks in
          let at_root = at_reversed (reverse F) root.place root.root (subst (λ z. slice_get z root.place ≡ Some root.root) (sym (reverse-reverse F)) root.at) in
          let later : i ≤ at_root.0 = ⊎_elim (λ less. absurd (let t = s.taken at_root.0 root.root less at_root.1 in cc)) (λ ge. ge) (cases_lt at_root.0 i) in
          let at_r = at_reversed F i r at in
          let before = root.last r w in
          let same_place = f.once before.0 at_r.0 r before.2 at_r.1 in
          let len = length-reverse F in
          let place : root.place ≡ at_r.0 = let a = at_root.2 in let b = at_r.2 in let c = before.1 in omega arith in
          let at_r' : slice_get F root.place ≡ Some r = subst (λ z. slice_get F z ≡ Some r) (sym place) at_r.1 in
          let same : root.root ≡ r = let a = root.at in cc in
          subst (λ z. Walk R z q) same root.from_root

      module _ (seen' : List Bool) (numbers' : List ℕ) (limit' : length seen' ≡ n) (length' : length numbers' ≡ n) (adds : (q : ℕ) → (has seen' q ≡ true) ↔ ((has seen q ≡ true) ⊎ Walk B r q)) (claims : Claims count seen numbers seen' numbers') where
        grows : (q : ℕ) → has seen q ≡ true → has seen' q ≡ true
        grows q h = (adds q).1 (inl h)

        r_in : has seen' r ≡ true
        r_in = (adds r).1 (inr here)

        -- a new one reaches the next of the order
        new_reaches : (q : ℕ) → has seen' q ≡ true → has seen q ≡ false → Walk R q r
        new_reaches q h l = ⊎_elim (λ i. absurd (cc)) (λ w. walk_back B R forth w) ((adds q).0 h)

        new_reached : (q : ℕ) → has seen' q ≡ true → has seen q ≡ false → Walk R r q
        new_reached q h l = in_class q (let b = IsIn-below seen' q h in omega arith) l (new_reaches q h l)

        -- an old one is not reached from a new one
        no_way_back : (p q : ℕ) → has seen p ≡ true → has seen q ≡ false → Walk R q p → ⊥
        no_way_back p q h l w = absurd (let t = along seen s.closed (walk_back R B back w) h in cc)

        -- the root is new, and takes all that leads to it
        pub second_more : SecondPass R B n (reverse F) (i + 1) seen' numbers' (count + 1)
        second_more = record {
          limit_is = limit';
          length_is = length';
          closed = λ x y h t. (adds y).1 (⊎_elim (λ o. inl (s.closed x y o t)) (λ w. inr (step w t)) ((adds x).0 h));
          taken = λ k x l a. ⊎_elim
              (λ less. grows x (s.taken k x less a))
              (λ ge. let e : k ≡ i = omega arith in let a' : slice_get (reverse F) i ≡ Some x = subst (λ z. slice_get (reverse F) z ≡ Some x) e a in let e' : r ≡ x = cc in subst (λ z. has seen' z ≡ true) e' r_in)
              (cases_lt k i);
          below = λ p h. ⊎_elim (λ o. let b = s.below p o.0 in let e = o.1 in omega arith) (λ w. let e = w.1 in omega arith) (claims p h);
          linked = λ p q h k e. ⊎_elim
              (λ o. ⊎_elim
              (λ o'. s.linked p q o.0 o'.0 (sym o.1 ∙ (e ∙ o'.1)))
              (λ w'. absurd (let b = s.below p o.0 in let a = o.1 in let c = w'.1 in omega arith))
              (claims q k))
              (λ w. ⊎_elim
              (λ o'. absurd (let b = s.below q o'.0 in let a = w.1 in let c = o'.1 in omega arith))
              (λ w'. walk_on (new_reaches p h w.0) (new_reached q k w'.0))
              (claims q k))
              (claims p h);
          same = λ p q h k v u. ⊎_elim
              (λ o. ⊎_elim
              (λ o'. o.1 ∙ (s.same p q o.0 o'.0 v u ∙ sym o'.1))
              (λ w'. absurd (no_way_back p q o.0 w'.0 u))
              (claims q k))
              (λ w. ⊎_elim
              (λ o'. absurd (no_way_back q p o'.0 w.0 v))
              (λ w'. w.1 ∙ sym w'.1)
              (claims q k))
              (claims p h);
          steps = λ p q h k t. ⊎_elim
              (λ o. ⊎_elim
              (λ o'. let a = s.steps p q o.0 o'.0 t in let b = o.1 in let c = o'.1 in omega arith)
              (λ w'. let a = s.below p o.0 in let b = o.1 in let c = w'.1 in omega arith)
              (claims q k))
              (λ w. ⊎_elim
              (λ o'. absurd (no_way_back q p o'.0 w.0 (step here t)))
              (λ w'. let b = w.1 in let c = w'.1 in omega arith)
              (claims q k))
              (claims p h);
          each = λ c l. ⊎_elim
              (λ less.
              let e = s.each c less in
              ⊎_elim (λ o. (e.0, grows e.0 e.1, o.1 ∙ e.2)) (λ w. absurd (let a = e.1 in let b = w.0 in cc)) (claims e.0 (grows e.0 e.1)))
              (λ ge. ⊎_elim (λ o. absurd (let a = o.0 in cc)) (λ w. (r, r_in, let e = w.1 in omega arith)) (claims r r_in))
              (cases_lt c count);
          few = let l = s.few in omega arith;
        }

    -- the whole order was taken, so each position was seen
    pub second_seen : length (reverse F) ≤ i → (p : ℕ) → p < n → has seen p ≡ true
    second_seen end p l =
        let t = all p l in
        let t' = at_reversed (reverse F) t.0 p (subst (λ z. slice_get z t.0 ≡ Some p) (sym (reverse-reverse F)) t.1) in
        let w = slice_get_within (reverse F) t'.0 p t'.1 in
        s.taken t'.0 p (omega arith) t'.1

    -- and has its number
    pub second_all : length (reverse F) ≤ i → AreNumbers R n numbers count
    second_all end =
        let seen_all = second_seen end in
        record {
          length_is = s.length_is;
          below = λ p l. s.below p (seen_all p l);
          classes = λ p q l m. (
            λ e. (s.linked p q (seen_all p l) (seen_all q m) e, s.linked q p (seen_all q m) (seen_all p l) (sym e)),
            λ w. s.same p q (seen_all p l) (seen_all q m) w.0 w.1,
          );
          steps = λ p q l m r. s.steps p q (seen_all p l) (seen_all q m) r;
          each = λ c l. let e = s.each c l in (e.0, (let b = IsIn-below seen e.0 e.1 in let k = s.limit_is in omega arith), e.2);
        }

-- each position is a start, so each was finished
pub all_finished : (R : ℕ → ℕ → Type 0) (n : ℕ) (starts F : List ℕ) → IsFinishList R (Contains starts) F → ((p : ℕ) → p < n → Stands starts p) → (p : ℕ) → p < n → Stands F p
all_finished R n starts F f all p l = (f.reached p).1 (p, stands_contains starts p (all p l), here)
