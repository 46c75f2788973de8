-- What a depth-first search keeps: heights of those that were seen.
use Rattle.std.proofs.Common.{◌≡◌, ◌⊎◌, ℕ, ◌+◌, ◌<◌, ◌≤◌, Bool, true, false, List, [], ◌∷◌, ◌++◌, length, refl, sym, ◌∙◌, ap, arith, inl, inr, ⊎_elim, subst, Some, length-append}
use Rattle.std.specs.Prelude.{slice_get}
use Rattle.std.proofs.Math.ListN.{set}
use Rattle.std.proofs.lemmas.Bool.{cases_lt}
use Rattle.std.proofs.lemmas.List.{get_or-set_same}
use Rattle.std.proofs.lemmas.Option.{slice_get_within}
use Rattle.guppy_search.specs.Reach.{Walk, here, step, ReachedFrom}
use Rattle.guppy_search.proofs.Walks.{walk_on, walk_from}
use Rattle.guppy_search.specs.IxSet.{has}
use Rattle.guppy_core.specs.Finish.{IsRooted, IsFinishList}
use Rattle.guppy_core.specs.Listing.{Stands, StandsBefore}
use Rattle.guppy_core.proofs.Inserts.{has-set_kept, has-set_cases}
use Rattle.guppy_core.specs.Cost.{missing_cost}
use Rattle.guppy_core.proofs.Costs.{missing_cost-set}
use Rattle.guppy_core.proofs.Places.{at_left, at_last, at_cases, stands_left, stands_last, stands_cases}
use Rattle.guppy_core.proofs.Levels.{raise, raise-mono, raise-above, raise-open, raise-past, raise-covers, close, close-mono, close-high, close-open, close-cases, put, put-same, put-other, In, Stacked, stacked_on}

-- how many were not seen
abbrev pub unseen : List Bool → ℕ
unseen seen = missing_cost (λ _. 1) 0 seen

-- y was seen, and is no higher than x
abbrev pub Leads : List Bool → (ℕ → ℕ) → ℕ → ℕ → Type 0
Leads seen h x y = (has seen y ≡ true) × (h y ≤ h x)

-- The state of a search: who was seen is on the stack, whose top comes first, or in the order of finishing.
-- Who has height 0 is closed: all that it reaches was finished, and it has its root. The others are open: of two of them each reaches those that are no higher, and a step from a finished one leads no higher.
pub record Heights (R : ℕ → ℕ → Type 0) (IsStart : ℕ → Type 0) (seen : List Bool) (stack order : List ℕ) (h : ℕ → ℕ) : Type 0 where
  pub sound : (x : ℕ) → has seen x ≡ true → ReachedFrom R IsStart x
  pub placed : (x : ℕ) → has seen x ≡ true → Stands order x ⊎ In stack x
  pub order_seen : (x : ℕ) → Stands order x → has seen x ≡ true
  pub stack_seen : (x : ℕ) → In stack x → has seen x ≡ true
  pub apart : (x : ℕ) → In stack x → Stands order x → ⊥
  pub stacked : Stacked h stack
  pub opened : (x : ℕ) → In stack x → 0 < h x
  pub above : (x : ℕ) → has seen x ≡ true → 0 < h x → unseen seen < h x
  pub level : (x : ℕ) → has seen x ≡ true → 0 < h x → (f : ℕ) × In stack f × (h f ≡ h x)
  pub reaches : (x y : ℕ) → has seen x ≡ true → has seen y ≡ true → 0 < h y → h y ≤ h x → Walk R x y
  pub done : (x y : ℕ) → Stands order x → R x y → Leads seen h x y
  pub once : (i j x : ℕ) → slice_get order i ≡ Some x → slice_get order j ≡ Some x → i ≡ j
  pub steps : (i x y : ℕ) → slice_get order i ≡ Some x → R x y → Walk R y x ⊎ StandsBefore order i y
  pub rooted : (x : ℕ) → has seen x ≡ true → h x ≡ 0 → IsRooted R order x

-- one more stands in the order
rooted_left : (R : ℕ → ℕ → Type 0) (order : List ℕ) (u x : ℕ) → IsRooted R order x → IsRooted R (order ++ u ∷ []) x
rooted_left R order u x r = record {
  root = r.root;
  place = r.place;
  at = at_left order u r.place r.root r.at;
  to_root = r.to_root;
  from_root = r.from_root;
  last = λ y w. let b = r.last y w in (b.0, b.1, at_left order u b.0 y b.2);
}

module _ (R : ℕ → ℕ → Type 0) (IsStart : ℕ → Type 0) (seen : List Bool) where
  module _ (u : ℕ) (rest order : List ℕ) (h : ℕ → ℕ) (s : Heights R IsStart seen (u ∷ rest) order h) where
    -- the top is the lowest of those that are open
    top_low : (x : ℕ) → has seen x ≡ true → 0 < h x → h u ≤ h x
    top_low x i o =
        let f = s.level x i o in
        ⊎_elim
        (λ e. let e' : h f.0 ≡ h u = ap h e in let l = f.2 in omega arith)
        (λ k. let l = f.2 in let a = (s.stacked.0 f.0 k).0 in omega arith)
        f.1

    pub top_seen : has seen u ≡ true
    top_seen = s.stack_seen u (inl refl)

    -- the top is open
    pub top_open : 0 < h u
    top_open = s.opened u (inl refl)

    -- who is open reaches the top
    pub to_top : (x : ℕ) → has seen x ≡ true → 0 < h x → Walk R x u
    to_top x i o = s.reaches x u i top_seen top_open (top_low x i o)

    module _ (v : ℕ) (v_in : has seen v ≡ true) (r : R u v) where
      raised_reaches : (x y : ℕ) → has seen x ≡ true → has seen y ≡ true → 0 < raise (h v) (h y) → raise (h v) (h y) ≤ raise (h v) (h x) → Walk R x y
      raised_reaches x y i j o le =
          let o' : 0 < raise (h v) (h x) = omega arith in
          let open_x = raise-open (h v) (h x) o' in
          let open_y = raise-open (h v) (h y) o in
          ⊎_elim
          (λ less. walk_on (to_top x i open_x) (walk_from r (s.reaches v y v_in j open_y (raise-past (h v) (h x) (h y) o le less))))
          (λ ge. s.reaches x y i j open_y ge)
          (cases_lt (h x) (h y))

      -- a step from the top to one that was seen: all that are open and lower are raised to it
      pub raised : Heights R IsStart seen (u ∷ rest) order (λ x. raise (h v) (h x))
      raised = record {
        sound = s.sound;
        placed = s.placed;
        order_seen = s.order_seen;
        stack_seen = s.stack_seen;
        apart = s.apart;
        stacked = stacked_on h (λ x. raise (h v) (h x)) (u ∷ rest) (λ x y a b le. raise-mono (h v) (h x) (h y) le) s.stacked;
        opened = λ x i. let o = s.opened x i in let a = raise-above (h v) (h x) in omega arith;
        above = λ x i o. let b = s.above x i (raise-open (h v) (h x) o) in let a = raise-above (h v) (h x) in omega arith;
        level = λ x i o. let f = s.level x i (raise-open (h v) (h x) o) in (f.0, f.1, ap (raise (h v)) f.2);
        reaches = raised_reaches;
        done = λ x y t q. let d = s.done x y t q in (d.0, raise-mono (h v) (h y) (h x) d.1);
        once = s.once;
        steps = s.steps;
        rooted = λ x i e. s.rooted x i (let a = raise-above (h v) (h x) in omega arith);
      }

      -- once all that is open is raised to the height of v, the top leads to it
      pub raised_leads : Leads seen (λ x. raise (h v) (h x)) u v
      raised_leads = (v_in, raise-covers (h v) (h u) top_open)

    module _ (floor : ℕ) (low : (x : ℕ) → In rest x → floor ≤ h x) (next : floor ≤ h u → (w : ℕ) × In rest w × (h w ≡ h u)) (leads : (y : ℕ) → R u y → Leads seen h u y) where
      popped_placed : (x : ℕ) → has seen x ≡ true → Stands (order ++ u ∷ []) x ⊎ In rest x
      popped_placed x i = ⊎_elim (λ t. inl (stands_left order u x t)) (λ f. ⊎_elim (λ e. inl (stands_last order u x e)) (λ k. inr k) f) (s.placed x i)

      popped_open : (x : ℕ) → In rest x → 0 < close floor (h x)
      popped_open x i = let e = close-high floor (h x) (low x i) in let o = s.opened x (inr i) in omega arith

      popped_done : (x y : ℕ) → Stands (order ++ u ∷ []) x → R x y → Leads seen (λ z. close floor (h z)) x y
      popped_done x y t r =
          ⊎_elim
          (λ old. let d = s.done x y old r in (d.0, close-mono floor (h y) (h x) d.1))
          (λ e.
          let d = leads y (subst (λ z. R z y) e r) in
          let same : h x ≡ h u = ap h e in
          let le : h y ≤ h x = let d1 = d.1 in omega arith in
          (d.0, close-mono floor (h y) (h x) le))
          (stands_cases order u x t)

      popped_level : (x : ℕ) → has seen x ≡ true → 0 < close floor (h x) → (f : ℕ) × In rest f × (close floor (h f) ≡ close floor (h x))
      popped_level x i o =
          let c = close-open floor (h x) o in
          let f = s.level x i (let a = c.1 in omega arith) in
          ⊎_elim
          (λ e.
          let same : h f.0 ≡ h u = ap h e in
          let w = next (let a = c.0 in let l = f.2 in omega arith) in
          (w.0, w.1, ap (close floor) (w.2 ∙ (sym same ∙ f.2))))
          (λ k. (f.0, k, ap (close floor) f.2))
          f.1

      popped_reaches : (x y : ℕ) → has seen x ≡ true → has seen y ≡ true → 0 < close floor (h y) → close floor (h y) ≤ close floor (h x) → Walk R x y
      popped_reaches x y i j o le =
          let b = close-open floor (h y) o in
          let a = close-open floor (h x) (omega arith) in
          s.reaches x y i j (let e = b.1 in omega arith) (let e = b.1 in let e' = a.1 in omega arith)

      popped_once : (i j x : ℕ) → slice_get (order ++ u ∷ []) i ≡ Some x → slice_get (order ++ u ∷ []) j ≡ Some x → i ≡ j
      popped_once i j x a b =
          let twice : (l : ℕ) → slice_get order l ≡ Some x → x ≡ u → ⊥ = λ l c e. s.apart x (inl e) (l, c) in
          ⊎_elim
          (λ p. ⊎_elim (λ q. s.once i j x p q) (λ q. absurd (twice i p q.1)) (at_cases order u j x b))
          (λ p. ⊎_elim (λ q. absurd (twice j q p.1)) (λ q. p.0 ∙ sym q.0) (at_cases order u j x b))
          (at_cases order u i x a)

      popped_steps : (i x y : ℕ) → slice_get (order ++ u ∷ []) i ≡ Some x → R x y → Walk R y x ⊎ StandsBefore (order ++ u ∷ []) i y
      popped_steps i x y a r =
          ⊎_elim
          (λ old. ⊎_elim (λ w. inl w) (λ b. inr (b.0, b.1, at_left order u b.0 y b.2)) (s.steps i x y old r))
          (λ e.
          let d = leads y (subst (λ z. R z y) e.1 r) in
          ⊎_elim
          (λ t. let within = slice_get_within order t.0 y t.1 in let last = e.0 in inr (t.0, omega arith, at_left order u t.0 y t.1))
          (λ k. inl (subst (λ z. Walk R y z) (sym e.1) (to_top y d.0 (s.opened y k))))
          (s.placed y d.0))
          (at_cases order u i x a)

      -- all that a closed one reaches is closed
      shut_along : {x y : ℕ} → Walk R x y → has seen x ≡ true → close floor (h x) ≡ 0 → (has seen y ≡ true) × (close floor (h y) ≡ 0)
      shut_along here i e = (i, e)
      shut_along (step w r) i e =
          let z = shut_along w i e in
          ⊎_elim
          (λ t. let d = popped_done _ _ t r in (d.0, let a = d.1 in let b = z.1 in omega arith))
          (λ k. absurd (let o = popped_open _ k in let b = z.1 in omega arith))
          (popped_placed _ z.0)

      popped_rooted : (x : ℕ) → has seen x ≡ true → close floor (h x) ≡ 0 → IsRooted R (order ++ u ∷ []) x
      popped_rooted x i e =
          ⊎_elim
          (λ o.
          let f = s.level x i o in
          let below : h x < floor = ⊎_elim (λ c. c.0) (λ c. absurd (let a = c.1 in omega arith)) (close-cases floor (h x)) in
          let same : h x ≡ h u = ⊎_elim (λ q. sym f.2 ∙ ap h q) (λ k. absurd (let a = low f.0 k in let l = f.2 in omega arith)) f.1 in
          let r : IsRooted R (order ++ u ∷ []) x = record {
            root = u;
            place = length order;
            at = at_last order u;
            to_root = to_top x i o;
            from_root = s.reaches u x top_seen i o (omega arith);
            last = λ y w.
                let z = shut_along w i e in
                ⊎_elim
                (λ t. (t.0, (let within = slice_get_within (order ++ u ∷ []) t.0 y t.1 in let l = length-append order (u ∷ []) in omega arith), t.1))
                (λ k. absurd (let o' = popped_open y k in let b = z.1 in omega arith))
                (popped_placed y z.0);
          } in r)
          (λ n. rooted_left R order u x (s.rooted x i (omega arith)))
          (cases_lt 0 (h x))

      -- the top is finished: those that are open and below the floor are closed
      pub popped : Heights R IsStart seen rest (order ++ u ∷ []) (λ x. close floor (h x))
      popped = record {
        sound = s.sound;
        placed = popped_placed;
        order_seen = λ x t. ⊎_elim (λ old. s.order_seen x old) (λ e. subst (λ z. has seen z ≡ true) (sym e) top_seen) (stands_cases order u x t);
        stack_seen = λ x i. s.stack_seen x (inr i);
        apart = λ x i t. ⊎_elim (λ old. s.apart x (inr i) old) (λ e. (s.stacked.0 x i).1 e) (stands_cases order u x t);
        stacked = stacked_on h (λ x. close floor (h x)) rest (λ x y a b le. close-mono floor (h x) (h y) le) s.stacked.1;
        opened = popped_open;
        above = λ x i o. let c = close-open floor (h x) o in let e = c.1 in let b = s.above x i (omega arith) in omega arith;
        level = popped_level;
        reaches = popped_reaches;
        done = popped_done;
        once = popped_once;
        steps = popped_steps;
        rooted = popped_rooted;
      }

  module _ (stack order : List ℕ) (h : ℕ → ℕ) (s : Heights R IsStart seen stack order h) (v : ℕ) (below : v < length seen) (lacks : has seen v ≡ false) (from : ReachedFrom R IsStart v) (to_new : (x : ℕ) → In stack x → Walk R x v) where
    new_in : has (set seen v true) v ≡ true
    new_in = get_or-set_same seen v true false below

    -- who was seen is another
    other : (x : ℕ) → has seen x ≡ true → x ≡ v → ⊥
    other x i e = let l : has seen x ≡ false = subst (λ z. has seen z ≡ false) (sym e) lacks in absurd (cc)

    fewer : unseen (set seen v true) + 1 ≡ unseen seen
    fewer = missing_cost-set (λ _. 1) 0 seen v v (omega arith) below lacks

    kept : (x : ℕ) → has seen x ≡ true → has (set seen v true) x ≡ true
    kept x i = has-set_kept seen v x i

    level_old : (x : ℕ) → has seen x ≡ true → put h v (unseen seen) x ≡ h x
    level_old x i = put-other h v (unseen seen) x (other x i)

    level_new : (x : ℕ) → x ≡ v → put h v (unseen seen) x ≡ unseen seen
    level_new x e = put-same h v (unseen seen) x e

    -- an open one reaches the new one
    open_to_new : (x : ℕ) → has seen x ≡ true → 0 < h x → Walk R x v
    open_to_new x i o =
        let f = s.level x i o in
        let f_open = s.opened f.0 f.1 in
        walk_on (s.reaches x f.0 i (s.stack_seen f.0 f.1) f_open (let l = f.2 in omega arith)) (to_new f.0 f.1)

    pushed_reaches : (x y : ℕ) → has (set seen v true) x ≡ true → has (set seen v true) y ≡ true → 0 < put h v (unseen seen) y → put h v (unseen seen) y ≤ put h v (unseen seen) x → Walk R x y
    pushed_reaches x y i j o le =
        ⊎_elim
        (λ ex. ⊎_elim
        (λ ey. subst (λ z. Walk R x z) (ex ∙ sym ey) here)
        (λ oy. absurd (let a = level_new x ex in let b = level_old y oy in let c = s.above y oy (omega arith) in omega arith))
        (has-set_cases seen v y j))
        (λ ox. ⊎_elim
        (λ ey. subst (λ z. Walk R x z) (sym ey) (open_to_new x ox (let a = level_old x ox in let b = level_new y ey in omega arith)))
        (λ oy. let a = level_old x ox in let b = level_old y oy in s.reaches x y ox oy (omega arith) (omega arith))
        (has-set_cases seen v y j))
        (has-set_cases seen v x i)

    -- a new one comes onto the stack, lower than all that are open
    pub pushed : Heights R IsStart (set seen v true) (v ∷ stack) order (put h v (unseen seen))
    pushed = record {
      sound = λ x i. ⊎_elim (λ e. subst (λ z. ReachedFrom R IsStart z) (sym e) from) (λ o. s.sound x o) (has-set_cases seen v x i);
      placed = λ x i. ⊎_elim (λ e. inr (inl e)) (λ o. ⊎_elim (λ t. inl t) (λ k. inr (inr k)) (s.placed x o)) (has-set_cases seen v x i);
      order_seen = λ x t. kept x (s.order_seen x t);
      stack_seen = λ x i. ⊎_elim (λ e. subst (λ z. has (set seen v true) z ≡ true) (sym e) new_in) (λ k. kept x (s.stack_seen x k)) i;
      apart = λ x i t. ⊎_elim (λ e. other x (s.order_seen x t) e) (λ k. s.apart x k t) i;
      stacked = (
        λ x k. let i = s.stack_seen x k in (let a = level_old x i in let b = level_new v refl in let c = s.above x i (s.opened x k) in omega arith, other x i),
        stacked_on h (put h v (unseen seen)) stack (λ x y a b le. let e = level_old x (s.stack_seen x a) in let f = level_old y (s.stack_seen y b) in omega arith) s.stacked,
      );
      opened = λ x i. ⊎_elim
          (λ e. let a = level_new x e in let b = fewer in omega arith)
          (λ k. let a = level_old x (s.stack_seen x k) in let b = s.opened x k in omega arith)
          i;
      above = λ x i o. ⊎_elim
          (λ e. let a = level_new x e in let b = fewer in omega arith)
          (λ k. let a = level_old x k in let b = fewer in let c = s.above x k (omega arith) in omega arith)
          (has-set_cases seen v x i);
      level = λ x i o. ⊎_elim
          (λ e. (v, inl refl, level_new v refl ∙ sym (level_new x e)))
          (λ k. let a = level_old x k in let f = s.level x k (omega arith) in (f.0, inr f.1, level_old f.0 (s.stack_seen f.0 f.1) ∙ (f.2 ∙ sym a)))
          (has-set_cases seen v x i);
      reaches = pushed_reaches;
      done = λ x y t r.
          let d = s.done x y t r in
          let a = level_old x (s.order_seen x t) in
          let b = level_old y d.0 in
          (kept y d.0, let c = d.1 in omega arith);
      once = s.once;
      steps = s.steps;
      rooted = λ x i e. ⊎_elim
          (λ q. absurd (let a = level_new x q in let b = fewer in omega arith))
          (λ k. let a = level_old x k in s.rooted x k (omega arith))
          (has-set_cases seen v x i);
    }

    -- a step that led to one that was seen leads no higher
    pub pushed_keeps : (x y : ℕ) → has seen x ≡ true → Leads seen h x y → Leads (set seen v true) (put h v (unseen seen)) x y
    pushed_keeps x y i d =
        let a = level_old x i in
        let b = level_old y d.0 in
        (kept y d.0, let c = d.1 in omega arith)

    -- all on the stack lead to a new top
    pub pushed_leads : (x : ℕ) → In stack x → Leads (set seen v true) (put h v (unseen seen)) x v
    pushed_leads x k =
        let i = s.stack_seen x k in
        (new_in, let a = level_old x i in let b = level_new v refl in let c = s.above x i (s.opened x k) in omega arith)

-- nothing was seen yet
pub none_seen : (R : ℕ → ℕ → Type 0) (IsStart : ℕ → Type 0) (seen : List Bool) → ((x : ℕ) → has seen x ≡ false) → Heights R IsStart seen [] [] (λ _. 0)
none_seen R IsStart seen none =
    let no : (x : ℕ) → has seen x ≡ true → ⊥ = λ x i. absurd (let l = none x in cc) in
    record {
      sound = λ x i. absurd (no x i);
      placed = λ x i. absurd (no x i);
      order_seen = λ x t. absurd (let e = t.1 in cc);
      stack_seen = λ x i. absurd i;
      apart = λ x i t. i;
      stacked = tt;
      opened = λ x i. absurd i;
      above = λ x i o. absurd (no x i);
      level = λ x i o. absurd (no x i);
      reaches = λ x y i j o le. absurd (no x i);
      done = λ x y t r. absurd (let e = t.1 in cc);
      once = λ i j x a b. absurd (cc);
      steps = λ i x y a r. absurd (cc);
      rooted = λ x i e. absurd (no x i);
    }

module _ (R : ℕ → ℕ → Type 0) (IsStart : ℕ → Type 0) (seen : List Bool) (order : List ℕ) (h : ℕ → ℕ) (s : Heights R IsStart seen [] order h) where
  pub all_placed : (x : ℕ) → has seen x ≡ true → Stands order x
  all_placed x i = ⊎_elim (λ t. t) (λ k. absurd k) (s.placed x i)

  walk_stands : {x y : ℕ} → Walk R x y → Stands order x → Stands order y
  walk_stands here t = t
  walk_stands (step w r) t = all_placed _ (s.done _ _ (walk_stands w t) r).0

  -- the stack is empty, and each start was seen
  pub finished_all : ((x : ℕ) → IsStart x → has seen x ≡ true) → IsFinishList R IsStart order
  finished_all starts = record {
    once = s.once;
    reached = λ x. (λ t. s.sound x (s.order_seen x t), λ r. walk_stands r.2 (all_placed r.0 (starts r.0 r.1)));
    steps = s.steps;
    rooted = λ x t.
        let i = s.order_seen x t in
        s.rooted x i (⊎_elim (λ o. absurd (s.level x i o).1) (λ n. omega arith) (cases_lt 0 (h x)));
  }

-- the top is finished, and heights keep their order
pub record Popped (R : ℕ → ℕ → Type 0) (IsStart : ℕ → Type 0) (seen : List Bool) (rest order : List ℕ) (h : ℕ → ℕ) : Type 0 where
  pub height : ℕ → ℕ
  pub heights : Heights R IsStart seen rest order height
  pub mono : (x y : ℕ) → h x ≤ h y → height x ≤ height y

-- the top is finished, since its steps all lead on
pub popped_top : (R : ℕ → ℕ → Type 0) (IsStart : ℕ → Type 0) (seen : List Bool) (u : ℕ) (rest order : List ℕ) (h : ℕ → ℕ) → Heights R IsStart seen (u ∷ rest) order h → ((y : ℕ) → R u y → Leads seen h u y) → Popped R IsStart seen rest (order ++ u ∷ []) h
popped_top R IsStart seen u [] order h s leads = record {
  height = λ x. close (h u + 1) (h x);
  heights = popped R IsStart seen u [] order h s (h u + 1) (λ x i. absurd i) (λ le. absurd (omega arith)) leads;
  mono = λ x y le. close-mono (h u + 1) (h x) (h y) le;
}
popped_top R IsStart seen u (w ∷ rest) order h s leads = record {
  height = λ x. close (h w) (h x);
  heights = popped R IsStart seen u (w ∷ rest) order h s (h w)
      (λ x i. ⊎_elim (λ e. let a : h x ≡ h w = ap h e in omega arith) (λ k. (s.stacked.1.0 x k).0) i)
      (λ le. (w, inl refl, let a = (s.stacked.0 w (inl refl)).0 in omega arith))
      leads;
  mono = λ x y le. close-mono (h w) (h x) (h y) le;
}
