-- A depth-first search that stops where the path to the top frame closes.
use Rattle.std.proofs.Common.{◌≡◌, ◌≢◌, ◌⊎◌, ℕ, suc, zero, ◌+◌, ◌<◌, ◌≤◌, Bool, true, false, List, [], ◌∷◌, ◌++◌, length, get_or, map, replicate, refl, sym, ap, ◌∙◌, subst, inl, inr, arith, ⊎_elim, append-nil, append_assoc}
use Rattle.std.specs.Prelude.{All}
use Rattle.std.proofs.Math.ListN.{set, length-set, length-replicate}
use Rattle.std.proofs.lemmas.Bool.{cases_lt, cases_Bool}
use Rattle.std.proofs.lemmas.List.{get_or-set_same}
use Rattle.guppy_search.specs.declared.ix.direction.DependencyDirection.TheVariants.{Forward, Reverse}
use Rattle.guppy_search.specs.Graph.{GraphValue, IsGraph}
use Rattle.guppy_search.specs.Reach.{Walk, here, step, Step}
use Rattle.guppy_search.specs.IxSet.{has}
use Rattle.guppy_search.proofs.Members.{IsIn-below, has-replicate}
use Rattle.guppy_search.proofs.SearchSteps.{far_end_below}
use Rattle.guppy_core.specs.Cycle.{IsCycle, IsAcyclic, from_first}
use Rattle.guppy_core.specs.declared.topo.finish.Frame.{Frame}
use Rattle.guppy_core.proofs.Inserts.{has-set_kept, has-set_cases}
use Rattle.guppy_core.proofs.Costs.{owed_first, degree}
use Rattle.guppy_core.proofs.Cycles.{IsPath, IsLast, path_closed, path_from, from_first_begins, from_first_ends, steps_acyclic}
use Rattle.guppy_core.proofs.DepthFirstSteps.{LinkTo, Looked, step_place, looked_none, looked_only, looked_step, no_more}
use Rattle.guppy_core.proofs.Frames.{at_place, left, left_done, left_step, left_new}
use Rattle.guppy_core.proofs.Levels.{In}

-- the positions of the frames
abbrev pub positions : List Frame → List ℕ
positions fs = map (λ (f : Frame). f.position) fs

-- the first of the frames is at y
abbrev pub IsHead : List Frame → ℕ → Type 0
IsHead [] y = ⊥
IsHead (f ∷ fs) y = y ≡ f.position

-- S x k y says that the link at place k of those at x leads to y, and is kept
module _ (R : ℕ → ℕ → Type 0) (S : ℕ → ℕ → ℕ → Type 0) where
  -- a frame before others: the first of these is a step away, none of them is where it is, and what links of it were taken lead to itself, to one that is done or to that first one
  pub record IsLinked (done : List Bool) (f : Frame) (fs : List Frame) : Type 0 where
    pub steps : (y : ℕ) → IsHead fs y → R f.position y
    pub once : In (positions fs) f.position → ⊥
    pub taken : (k y : ℕ) → k < f.next → S f.position k y → (y ≡ f.position) ⊎ ((has done y ≡ true) ⊎ IsHead fs y)

  -- so is each of the frames
  abbrev pub AreLinked : List Bool → List Frame → Type 0
  AreLinked done [] = Unit {0}
  AreLinked done (f ∷ fs) = IsLinked done f fs × AreLinked done fs

  linked_path : (done : List Bool) (fs : List Frame) → AreLinked done fs → IsPath R (positions fs)
  linked_path done [] p = tt
  linked_path done (f ∷ []) p = (λ y h. absurd (cc), p.0.once, tt)
  linked_path done (f ∷ g ∷ fs) p = (λ y h. p.0.steps y (let e : g.position ≡ y = cc in sym e), p.0.once, linked_path done (g ∷ fs) p.1)

  linked_back : (done : List Bool) (front back : List Frame) → AreLinked done (front ++ back) → AreLinked done back
  linked_back done [] back p = p
  linked_back done (f ∷ front) back p = linked_back done front back p.1

-- who is at the frames of two lists end to end
pub in_left : (front back : List Frame) (x : ℕ) → In (positions front) x → In (positions (front ++ back)) x
in_left [] back x i = absurd i
in_left (f ∷ front) back x i = ⊎_elim inl (λ r. inr (in_left front back x r)) i

pub in_right : (front back : List Frame) (x : ℕ) → In (positions back) x → In (positions (front ++ back)) x
in_right [] back x i = i
in_right (f ∷ front) back x i = inr (in_right front back x i)

pub in_cases : (front back : List Frame) (x : ℕ) → In (positions (front ++ back)) x → In (positions front) x ⊎ In (positions back) x
in_cases [] back x i = inr i
in_cases (f ∷ front) back x i = ⊎_elim (λ e. inl (inl e)) (λ r. ⊎_elim (λ a. inl (inr a)) inr (in_cases front back x r)) i

-- a frame that moves on stays where it is
pub positions_moved : (front : List Frame) (f : Frame) (k : ℕ) → positions (front ++ at_place f.position k ∷ []) ≡ positions (front ++ f ∷ [])
positions_moved [] f k = refl
positions_moved (g ∷ front) f k = ap (λ (xs : List ℕ). g.position ∷ xs) (positions_moved front f k)

in_get : (fs : List Frame) (k : ℕ) (d : Frame) → k < length fs → In (positions fs) (get_or fs k d).position
in_get [] k d h = absurd (omega arith)
in_get (f ∷ fs) zero d h = inl refl
in_get (f ∷ fs) (suc k) d h = inr (in_get fs k d (omega arith))

ends_at : (front : List Frame) (f : Frame) → IsLast (positions (front ++ f ∷ [])) f.position
ends_at [] f = refl
ends_at (g ∷ []) f = refl
ends_at (g ∷ h ∷ front) f = ends_at (h ∷ front) f

-- The frames at the end are changed.
module _ (R : ℕ → ℕ → Type 0) (S : ℕ → ℕ → ℕ → Type 0) (done done' : List Bool) (a b : List Frame)
    (grows : (y : ℕ) → has done y ≡ true → has done' y ≡ true)
    (head : (y : ℕ) → IsHead a y → (has done' y ≡ true) ⊎ IsHead b y)
    (back : (y : ℕ) → IsHead b y → IsHead a y)
    (IsFront : ℕ → Type 0)
    (now_in : (x : ℕ) → IsFront x → In (positions b) x → In (positions a) x) where
  head_back : (front : List Frame) (y : ℕ) → IsHead (front ++ b) y → IsHead (front ++ a) y
  head_back [] y h = back y h
  head_back (f ∷ front) y h = h

  head_on : (front : List Frame) (y : ℕ) → IsHead (front ++ a) y → (has done' y ≡ true) ⊎ IsHead (front ++ b) y
  head_on [] y h = head y h
  head_on (f ∷ front) y h = inr h

  in_changed : (front : List Frame) (x : ℕ) → IsFront x → In (positions (front ++ b)) x → In (positions (front ++ a)) x
  in_changed [] x p i = now_in x p i
  in_changed (f ∷ front) x p i = ⊎_elim inl (λ r. inr (in_changed front x p r)) i

  linked_changed : (front : List Frame) → ((x : ℕ) → In (positions front) x → IsFront x) → AreLinked R S done (front ++ a) → AreLinked R S done' b → AreLinked R S done' (front ++ b)
  linked_changed [] each p q = q
  linked_changed (f ∷ front) each p q = (
    record {
      steps = λ y h. p.0.steps y (head_back front y h);
      once = λ i. p.0.once (in_changed front f.position (each f.position (inl refl)) i);
      taken = λ k y l s. ⊎_elim inl (λ o. inr (⊎_elim (λ d. inl (grows y d)) (λ h. head_on front y h) o)) (p.0.taken k y l s);
    },
    linked_changed front (λ x i. each x (inr i)) p.1 q,
  )

-- the state of a search by frames: those that were seen are done or at a frame, and those that are done lead to done ones alone, and not round
pub record Traces (R : ℕ → ℕ → Type 0) (S : ℕ → ℕ → ℕ → Type 0) (limit : ℕ) (seen done : List Bool) (frames : List Frame) : Type 0 where
  pub limit_is : length seen ≡ limit
  pub done_is : length done ≡ limit
  pub linked : AreLinked R S done frames
  pub at_frame : (x : ℕ) → In (positions frames) x → (has seen x ≡ true) × (has done x ≡ false)
  pub placed : (x : ℕ) → has seen x ≡ true → (has done x ≡ true) ⊎ In (positions frames) x
  pub done_seen : (x : ℕ) → has done x ≡ true → has seen x ≡ true
  pub closed : (x y : ℕ) → has done x ≡ true → R x y → has done y ≡ true
  pub no_round : (x y : ℕ) → has done x ≡ true → R x y → Walk R y x → x ≡ y

module _ (R : ℕ → ℕ → Type 0) (S : ℕ → ℕ → ℕ → Type 0) (limit : ℕ) (seen done : List Bool) where
  walk_done : ((x y : ℕ) → has done x ≡ true → R x y → has done y ≡ true) → {x y : ℕ} → Walk R x y → has done x ≡ true → has done y ≡ true
  walk_done closed here d = d
  walk_done closed (step w r) d = closed _ _ (walk_done closed w d) r

  module _ (front : List Frame) (f : Frame) (s : Traces R S limit seen done (front ++ f ∷ [])) where
    top : IsLinked R S done f []
    top = (linked_back R S done front (f ∷ []) s.linked).0

    top_open : (has seen f.position ≡ true) × (has done f.position ≡ false)
    top_open = s.at_frame f.position (in_right front (f ∷ []) f.position (inl refl))

    -- the top is a position
    pub trace_below : f.position < limit
    trace_below = let a = IsIn-below seen f.position top_open.0 in let e = s.limit_is in omega arith

    module _ (v : ℕ) (r : R f.position v) (other : v ≢ f.position) where
      -- its next link leads to an open one: the frames from there on are a cycle
      pub trace_closed : has seen v ≡ true → has done v ≡ false → IsCycle R (from_first v (positions (front ++ f ∷ [])))
      trace_closed seen_v not_done =
          let fs = positions (front ++ f ∷ []) in
          let i : In (positions (front ++ f ∷ [])) v = ⊎_elim (λ d. absurd (cc)) (λ i. i) (s.placed v seen_v) in
          path_closed R (from_first v (positions (front ++ f ∷ []))) v f.position
          (path_from R (positions (front ++ f ∷ [])) v (linked_path R S done (front ++ f ∷ []) s.linked))
          (from_first_begins (positions (front ++ f ∷ [])) v i)
          (from_first_ends (positions (front ++ f ∷ [])) v f.position i (ends_at front f))
          other r

    moved : Frame
    moved = at_place f.position (f.next + 1)

    moved_in : (x : ℕ) → In (positions (front ++ at_place f.position (f.next + 1) ∷ [])) x → In (positions (front ++ f ∷ [])) x
    moved_in x i = ⊎_elim (λ a. in_left front (f ∷ []) x a) (λ b. in_right front (f ∷ []) x b) (in_cases front (at_place f.position (f.next + 1) ∷ []) x i)

    in_moved : (x : ℕ) → In (positions (front ++ f ∷ [])) x → In (positions (front ++ at_place f.position (f.next + 1) ∷ [])) x
    in_moved x i = ⊎_elim (λ a. in_left front (at_place f.position (f.next + 1) ∷ []) x a) (λ b. in_right front (at_place f.position (f.next + 1) ∷ []) x b) (in_cases front (f ∷ []) x i)

    -- its next link leads to itself, to one that is done, or is not kept
    pub trace_old : ((y : ℕ) → S f.position f.next y → (y ≡ f.position) ⊎ (has done y ≡ true)) → Traces R S limit seen done (front ++ at_place f.position (f.next + 1) ∷ [])
    trace_old one = record {
      limit_is = s.limit_is;
      done_is = s.done_is;
      linked = linked_changed R S done done (f ∷ []) (at_place f.position (f.next + 1) ∷ []) (λ y d. d) (λ y h. inr h) (λ y h. h) (λ _. Unit {0}) (λ x _ i. i) front (λ x i. tt) s.linked (
        record {
          steps = top.steps;
          once = top.once;
          taken = λ k y l q. ⊎_elim
              (λ less. top.taken k y less q)
              (λ ge. let e : k ≡ f.next = omega arith in ⊎_elim inl (λ d. inr (inl d)) (one y (subst (λ z. S f.position z y) e q)))
              (cases_lt k f.next);
        },
        tt,
      );
      at_frame = λ x i. s.at_frame x (moved_in x i);
      placed = λ x i. ⊎_elim inl (λ a. inr (in_moved x a)) (s.placed x i);
      done_seen = s.done_seen;
      closed = s.closed;
      no_round = s.no_round;
    }

    -- it leads to a new one
    pub trace_new : (v : ℕ) → R f.position v → ((y : ℕ) → S f.position f.next y → y ≡ v) → has seen v ≡ false → v < limit → Traces R S limit (set seen v true) done ((front ++ at_place f.position (f.next + 1) ∷ []) ++ at_place v 0 ∷ [])
    trace_new v r only lacks below =
        let below' : v < length seen = let e = s.limit_is in omega arith in
        let new_in : has (set seen v true) v ≡ true = get_or-set_same seen v true false below' in
        let tail : List Frame = at_place f.position (f.next + 1) ∷ at_place v 0 ∷ [] in
        let not_v : (x : ℕ) → has seen x ≡ true → x ≢ v = λ x i e. absurd (let k : has seen v ≡ true = subst (λ z. has seen z ≡ true) e i in cc) in
        let not_done : has done v ≡ false = ⊎_elim (λ d. absurd (let k = s.done_seen v d in cc)) (λ n. n) (cases_Bool (has done v)) in
        let whole : (front ++ at_place f.position (f.next + 1) ∷ []) ++ at_place v 0 ∷ [] ≡ front ++ (at_place f.position (f.next + 1) ∷ at_place v 0 ∷ []) = append_assoc front (at_place f.position (f.next + 1) ∷ []) (at_place v 0 ∷ []) in
        rw whole (record {
          limit_is = length-set seen v true ∙ s.limit_is;
          done_is = s.done_is;
          linked = linked_changed R S done done (f ∷ []) (at_place f.position (f.next + 1) ∷ at_place v 0 ∷ []) (λ y d. d) (λ y h. inr h) (λ y h. h) (λ x. has seen x ≡ true)
              (λ x i at. ⊎_elim inl (λ o. ⊎_elim (λ e. absurd (not_v x i e)) (λ n. absurd n) o) at)
              front (λ x i. (s.at_frame x (in_left front (f ∷ []) x i)).0) s.linked (
                record {
                  steps = λ y h. subst (λ z. R f.position z) (sym h) r;
                  once = λ i. ⊎_elim (λ e. not_v f.position top_open.0 e) (λ n. n) i;
                  taken = λ k y l q. ⊎_elim
                      (λ less. ⊎_elim inl (λ o. inr (⊎_elim inl (λ n. absurd n) o)) (top.taken k y less q))
                      (λ ge. let e : k ≡ f.next = omega arith in inr (inr (only y (subst (λ z. S f.position z y) e q))))
                      (cases_lt k f.next);
                },
                (
                  record {
                    steps = λ y h. absurd h;
                    once = λ i. i;
                    taken = λ k y l q. absurd (omega arith);
                  },
                  tt,
                ),
              );
          at_frame = λ x i. ⊎_elim
              (λ a. let o = s.at_frame x (in_left front (f ∷ []) x a) in (has-set_kept seen v x o.0, o.1))
              (λ b. ⊎_elim
              (λ e. let o = s.at_frame x (in_right front (f ∷ []) x (inl e)) in (has-set_kept seen v x o.0, o.1))
              (λ c. ⊎_elim (λ e. (subst (λ z. has (set seen v true) z ≡ true) (sym e) new_in, subst (λ z. has done z ≡ false) (sym e) not_done)) (λ n. absurd n) c)
              b)
              (in_cases front (at_place f.position (f.next + 1) ∷ at_place v 0 ∷ []) x i);
          placed = λ x i. ⊎_elim
              (λ e. inr (in_right front (at_place f.position (f.next + 1) ∷ at_place v 0 ∷ []) x (inr (inl e))))
              (λ old. ⊎_elim inl (λ a. inr (⊎_elim
              (λ b. in_left front (at_place f.position (f.next + 1) ∷ at_place v 0 ∷ []) x b)
              (λ b. ⊎_elim (λ e. in_right front (at_place f.position (f.next + 1) ∷ at_place v 0 ∷ []) x (inl e)) (λ n. absurd n) b)
              (in_cases front (f ∷ []) x a))) (s.placed x old))
              (has-set_cases seen v x i);
          done_seen = λ x d. has-set_kept seen v x (s.done_seen x d);
          closed = s.closed;
          no_round = s.no_round;
        })

    -- all its links were taken
    pub trace_done : ((y : ℕ) → R f.position y → (k : ℕ) × (k < f.next) × S f.position k y) → Traces R S limit seen (set done f.position true) front
    trace_done all =
        let u = f.position in
        let below : f.position < length done = let a = trace_below in let e = s.done_is in omega arith in
        let now_done : has (set done f.position true) f.position ≡ true = get_or-set_same done f.position true false below in
        let grows : (y : ℕ) → has done y ≡ true → has (set done f.position true) y ≡ true = has-set_kept done f.position in
        let leads : (y : ℕ) → R f.position y → (y ≡ f.position) ⊎ (has done y ≡ true) = λ y r. let q = all y r in ⊎_elim inl (λ o. ⊎_elim inr (λ n. absurd n) o) (top.taken q.0 y q.1 q.2) in
        let apart : (x : ℕ) → In (positions front) x → x ≢ f.position = λ x i e. twice front x i e s.linked in
        let linked : AreLinked R S (set done f.position true) (front ++ []) = linked_changed R S done (set done f.position true) (f ∷ []) [] grows (λ y h. inl (subst (λ z. has (set done f.position true) z ≡ true) (sym h) now_done)) (λ y h. absurd h) (λ _. Unit {0}) (λ x _ i. absurd i) front (λ x i. tt) s.linked tt in
        record {
          limit_is = s.limit_is;
          done_is = length-set done f.position true ∙ s.done_is;
          linked = subst (λ fs. AreLinked R S (set done f.position true) fs) (append-nil front) linked;
          at_frame = λ x i.
              let o = s.at_frame x (in_left front (f ∷ []) x i) in
              (o.0, ⊎_elim (λ d. absurd (⊎_elim (λ e. apart x i e) (λ k. absurd (let n = o.1 in cc)) (has-set_cases done f.position x d))) (λ n. n) (cases_Bool (has (set done f.position true) x)));
          placed = λ x i. ⊎_elim
              (λ d. inl (grows x d))
              (λ a. ⊎_elim inr (λ b. ⊎_elim (λ e. inl (subst (λ z. has (set done f.position true) z ≡ true) (sym e) now_done)) (λ n. absurd n) b) (in_cases front (f ∷ []) x a))
              (s.placed x i);
          done_seen = λ x d. ⊎_elim (λ e. subst (λ z. has seen z ≡ true) (sym e) top_open.0) (λ k. s.done_seen x k) (has-set_cases done f.position x d);
          closed = λ x y d r. ⊎_elim
              (λ e. ⊎_elim (λ same. subst (λ z. has (set done f.position true) z ≡ true) (sym same) now_done) (λ k. grows y k) (leads y (subst (λ z. R z y) e r)))
              (λ k. grows y (s.closed x y k r))
              (has-set_cases done f.position x d);
          no_round = λ x y d r w. ⊎_elim
              (λ e. ⊎_elim
              (λ same. e ∙ sym same)
              (λ k. absurd (let back = walk_done s.closed w k in let to_top : has done f.position ≡ true = subst (λ z. has done z ≡ true) e back in let n = top_open.1 in cc))
              (leads y (subst (λ z. R z y) e r)))
              (λ k. s.no_round x y k r w)
              (has-set_cases done f.position x d);
        }
      where
        twice : (gs : List Frame) (x : ℕ) → In (positions gs) x → x ≡ f.position → AreLinked R S done (gs ++ f ∷ []) → ⊥
        twice [] x i e p = i
        twice (g ∷ gs) x i e p = ⊎_elim
            (λ here. p.0.once (in_right gs (f ∷ []) g.position (inl (sym here ∙ e))))
            (λ r. twice gs x r e p.1)
            i

  -- a start is new
  pub trace_begun : Traces R S limit seen done [] → (v : ℕ) → has seen v ≡ false → v < limit → Traces R S limit (set seen v true) done (at_place v 0 ∷ [])
  trace_begun s v lacks below =
      let below' : v < length seen = let e = s.limit_is in omega arith in
      let new_in : has (set seen v true) v ≡ true = get_or-set_same seen v true false below' in
      let not_done : has done v ≡ false = ⊎_elim (λ d. absurd (let k = s.done_seen v d in cc)) (λ n. n) (cases_Bool (has done v)) in
      record {
        limit_is = length-set seen v true ∙ s.limit_is;
        done_is = s.done_is;
        linked = (record { steps = λ y h. absurd h; once = λ i. i; taken = λ k y l q. absurd (omega arith) }, tt);
        at_frame = λ x i. ⊎_elim (λ e. (subst (λ z. has (set seen v true) z ≡ true) (sym e) new_in, subst (λ z. has done z ≡ false) (sym e) not_done)) (λ n. absurd n) i;
        placed = λ x i. ⊎_elim (λ e. inr (inl e)) (λ old. ⊎_elim inl (λ n. absurd n) (s.placed x old)) (has-set_cases seen v x i);
        done_seen = λ x d. has-set_kept seen v x (s.done_seen x d);
        closed = s.closed;
        no_round = s.no_round;
      }

  -- no frame is left, and all were seen: no list is a cycle
  pub trace_all : Traces R S limit seen done [] → ((x y : ℕ) → R x y → x < limit) → ((x : ℕ) → x < limit → has seen x ≡ true) → IsAcyclic R
  trace_all s below all = steps_acyclic R (λ x y r w. s.no_round x y (⊎_elim (λ d. d) (λ n. absurd n) (s.placed x (all x (below x y r)))) r w)

-- nothing was seen yet
pub trace_none : (R : ℕ → ℕ → Type 0) (S : ℕ → ℕ → ℕ → Type 0) (limit : ℕ) (seen done : List Bool) → length seen ≡ limit → length done ≡ limit → ((x : ℕ) → has seen x ≡ false) → ((x : ℕ) → has done x ≡ false) → Traces R S limit seen done []
trace_none R S limit seen done e e' none none' =
    let no : (x : ℕ) → has seen x ≡ true → ⊥ = λ x i. absurd (let l = none x in cc) in
    let no' : (x : ℕ) → has done x ≡ true → ⊥ = λ x i. absurd (let l = none' x in cc) in
    record {
      limit_is = e;
      done_is = e';
      linked = tt;
      at_frame = λ x i. absurd i;
      placed = λ x i. absurd (no x i);
      done_seen = λ x d. absurd (no' x d);
      closed = λ x y d r. absurd (no' x d);
      no_round = λ x y d r w. absurd (no' x d);
    }

-- a search whose first i positions were seen, and which may look bound times in all
pub record Tracing {N E : Type 0} (keep : E → Bool) (graph : GraphValue N E) (i bound looks : ℕ) (seen done : List Bool) (frames : List Frame) : Type 0 where
  pub state : Traces (Step Forward keep graph.links) (LinkTo Forward keep graph.links) (length graph.nodes) seen done frames
  pub begun : (x : ℕ) → x < i → has seen x ≡ true
  pub paid : looks + left 0 (degree Forward graph.links) seen frames ≤ bound

module _ {N E : Type 0} (keep : E → Bool) (graph : GraphValue N E) where
  pub tracing_first : (n looks : ℕ) → n ≡ length graph.nodes → IsGraph graph → Tracing keep graph 0 (looks + length graph.links) looks (replicate n false) (replicate n false) []
  tracing_first n looks e g = record {
    state = trace_none (Step Forward keep graph.links) (LinkTo Forward keep graph.links) (length graph.nodes) (replicate n false) (replicate n false) (length-replicate n false ∙ e) (length-replicate n false ∙ e) (has-replicate n) (has-replicate n);
    begun = λ x h. absurd (omega arith);
    paid = let a = no_more (degree Forward graph.links) 0 (replicate n false) in let b = owed_first Forward graph.links n (rw e g.ends) in omega arith;
  }

  module _ (i bound looks : ℕ) (seen done : List Bool) where
    -- the next position was seen before
    pub tracing_old : Tracing keep graph i bound looks seen done [] → has seen i ≡ true → Tracing keep graph (i + 1) bound looks seen done []
    tracing_old s old = record {
      state = s.state;
      begun = λ x h. ⊎_elim (λ less. s.begun x less) (λ ge. let e : x ≡ i = omega arith in subst (λ z. has seen z ≡ true) (sym e) old) (cases_lt x i);
      paid = s.paid;
    }

    -- it is new
    pub tracing_new : Tracing keep graph i bound looks seen done [] → i < length graph.nodes → has seen i ≡ false → Tracing keep graph (i + 1) bound looks (set seen i true) done (at_place i 0 ∷ [])
    tracing_new s below lacks =
        let below' : i < length seen = let e = s.state.limit_is in omega arith in
        record {
          state = trace_begun (Step Forward keep graph.links) (LinkTo Forward keep graph.links) (length graph.nodes) seen done s.state i lacks below;
          begun = λ x h. ⊎_elim
              (λ less. has-set_kept seen i x (s.begun x less))
              (λ ge. let e : x ≡ i = omega arith in subst (λ z. has (set seen i true) z ≡ true) (sym e) (get_or-set_same seen i true false below'))
              (cases_lt x i);
          paid = let a = left_new 0 (degree Forward graph.links) seen [] i lacks below' in let b = s.paid in omega arith;
        }

    module _ (front : List Frame) (f : Frame) (s : Tracing keep graph i bound looks seen done (front ++ f ∷ [])) where
      pub tracing_below : f.position < length graph.nodes
      tracing_below = trace_below (Step Forward keep graph.links) (LinkTo Forward keep graph.links) (length graph.nodes) seen done front f s.state

      -- one more look is paid for
      pub look_paid : f.next < degree Forward graph.links f.position → looks + 1 ≤ bound
      look_paid more = let a = left_step 0 (degree Forward graph.links) seen front f more in let p = s.paid in omega arith

      -- the top's row was taken
      pub tracing_done : degree Forward graph.links f.position ≤ f.next → Tracing keep graph i bound looks seen (set done f.position true) front
      tracing_done all = record {
        state = trace_done (Step Forward keep graph.links) (LinkTo Forward keep graph.links) (length graph.nodes) seen done front f s.state (λ y r. let p = step_place Forward keep graph.links f.position y r in (p.0, (let a = p.1 in omega arith), p.2));
        begun = s.begun;
        paid = let a = left_done 0 (degree Forward graph.links) seen front f in let b = s.paid in omega arith;
      }

      module _ (v : ℕ) (b : Bool) (l : Looked Forward keep graph.links f.position f.next v b) where
        passed : ((y : ℕ) → LinkTo Forward keep graph.links f.position f.next y → (y ≡ f.position) ⊎ (has done y ≡ true)) → Tracing keep graph i bound (looks + 1) seen done (front ++ at_place f.position (f.next + 1) ∷ [])
        passed one = record {
          state = trace_old (Step Forward keep graph.links) (LinkTo Forward keep graph.links) (length graph.nodes) seen done front f s.state one;
          begun = s.begun;
          paid = let a = left_step 0 (degree Forward graph.links) seen front f l.within in let p = s.paid in omega arith;
        }

        -- the link is not kept
        pub link_skipped : b ≡ false → Tracing keep graph i bound (looks + 1) seen done (front ++ at_place f.position (f.next + 1) ∷ [])
        link_skipped drops = passed (λ y t. absurd (looked_none Forward keep graph.links f.position f.next v b l drops y t))

        -- it leads to its own position
        pub link_round : v ≡ f.position → Tracing keep graph i bound (looks + 1) seen done (front ++ at_place f.position (f.next + 1) ∷ [])
        link_round same = passed (λ y t. inl (looked_only Forward keep graph.links f.position f.next v b l y t ∙ same))

        -- to one that is done
        pub link_done : has done v ≡ true → Tracing keep graph i bound (looks + 1) seen done (front ++ at_place f.position (f.next + 1) ∷ [])
        link_done old = passed (λ y t. inr (subst (λ z. has done z ≡ true) (sym (looked_only Forward keep graph.links f.position f.next v b l y t)) old))

        -- to a new one
        pub link_new : b ≡ true → has seen v ≡ false → v < length graph.nodes → Tracing keep graph i bound (looks + 1) (set seen v true) done ((front ++ at_place f.position (f.next + 1) ∷ []) ++ at_place v 0 ∷ [])
        link_new keeps new below =
            let same = s.state.limit_is in
            let within : v < length seen = omega arith in
            record {
              state = trace_new (Step Forward keep graph.links) (LinkTo Forward keep graph.links) (length graph.nodes) seen done front f s.state v (looked_step Forward keep graph.links f.position f.next v b l keeps) (looked_only Forward keep graph.links f.position f.next v b l) new below;
              begun = λ x h. has-set_kept seen v x (s.begun x h);
              paid =
                  let e = left_new 0 (degree Forward graph.links) seen (front ++ at_place f.position (f.next + 1) ∷ []) v new within in
                  let a = left_step 0 (degree Forward graph.links) seen front f l.within in
                  let p = s.paid in
                  omega arith;
            }

        -- to an open one: that is a cycle
        pub link_back : b ≡ true → v ≢ f.position → has seen v ≡ true → has done v ≡ false → IsCycle (Step Forward keep graph.links) (from_first v (positions (front ++ at_place f.position (f.next + 1) ∷ [])))
        link_back keeps other old not_done = rw (positions_moved front f (f.next + 1)) (trace_closed (Step Forward keep graph.links) (LinkTo Forward keep graph.links) (length graph.nodes) seen done front f s.state v (looked_step Forward keep graph.links f.position f.next v b l keeps) other old not_done)

      -- all frames are at positions
      pub tracing_small : length graph.nodes < 4294967296 → All (λ (g : Frame). g.position < 4294967296) (front ++ at_place f.position (f.next + 1) ∷ [])
      tracing_small few k d h =
          let g = get_or (front ++ at_place f.position (f.next + 1) ∷ []) k d in
          let i = subst (λ xs. In xs (get_or (front ++ at_place f.position (f.next + 1) ∷ []) k d).position) (positions_moved front f (f.next + 1)) (in_get (front ++ at_place f.position (f.next + 1) ∷ []) k d h) in
          let within = IsIn-below seen (get_or (front ++ at_place f.position (f.next + 1) ∷ []) k d).position (s.state.at_frame (get_or (front ++ at_place f.position (f.next + 1) ∷ []) k d).position i).0 in
          let e = s.state.limit_is in
          omega arith

    pub looks_paid : (frames : List Frame) → Tracing keep graph i bound looks seen done frames → looks ≤ bound
    looks_paid frames s = let p = s.paid in omega arith

    -- all positions were seen, and no frame is left
    pub tracing_all : IsGraph graph → Tracing keep graph i bound looks seen done [] → length graph.nodes ≤ i → IsAcyclic (Step Forward keep graph.links)
    tracing_all g s all = trace_all (Step Forward keep graph.links) (LinkTo Forward keep graph.links) (length graph.nodes) seen done s.state
        (λ x y t. subst (λ z. z < length graph.nodes) t.near (far_end_below Reverse graph.links (length graph.nodes) t.number t.link t.found g.ends))
        (λ x h. s.begun x (omega arith))
