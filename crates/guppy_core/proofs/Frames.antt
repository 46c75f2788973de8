-- A depth-first search by frames.
use Rattle.std.proofs.Common.{◌≡◌, ℕ, ◌+◌, ◌-◌, ◌<◌, List, [], ◌∷◌, ◌++◌, length, arith, Bool, true, false, refl, sym, ap, ◌∙◌, subst, inl, ⊎_elim, Some}
use Rattle.std.proofs.Math.ListN.{set, length-set}
use Rattle.std.proofs.lemmas.List.{get_or-set_same}
use Rattle.std.proofs.lemmas.Bool.{cases_lt}
use Rattle.std.proofs.lemmas.List.Elements.{All-pop, All-push, All-weaker, All-nil}
use Rattle.std.specs.Prelude.{All}
use Rattle.guppy_search.specs.Reach.{Walk, here, step, ReachedFrom}
use Rattle.guppy_search.specs.IxSet.{has}
use Rattle.guppy_core.specs.declared.topo.finish.Frame.{Frame}
use Rattle.guppy_core.proofs.Inserts.{has-set_kept}
use Rattle.guppy_core.specs.Cost.{missing_cost}
use Rattle.guppy_core.proofs.Costs.{missing_cost-set}
use Rattle.guppy_core.proofs.Levels.{In, raise, raise-mono, put}
use Rattle.guppy_core.proofs.Heights.{Heights, Leads, unseen, to_top, raised, raised_leads, popped_top, pushed, pushed_keeps, pushed_leads}

-- a frame that has gone over so many links of its position
abbrev pub at_place : ℕ → ℕ → Frame
at_place p k = record { position = p; next = k }

-- the positions of the frames, those of the last frame first, on those of acc
abbrev pub stack_of : List ℕ → List Frame → List ℕ
stack_of acc [] = acc
stack_of acc (f ∷ fs) = stack_of (f.position ∷ acc) fs

pub stack_of-push : (acc : List ℕ) (fs : List Frame) (f : Frame) → stack_of acc (fs ++ f ∷ []) ≡ f.position ∷ stack_of acc fs
stack_of-push acc [] f = refl
stack_of-push acc (g ∷ fs) f = stack_of-push (g.position ∷ acc) fs f

-- what the frames still cost, where each costs e more than its links
abbrev pub frames_cost : ℕ → (ℕ → ℕ) → List Frame → ℕ
frames_cost e cost [] = 0
frames_cost e cost (f ∷ fs) = (cost f.position - f.next + e) + frames_cost e cost fs

pub frames_cost-push : (e : ℕ) (cost : ℕ → ℕ) (fs : List Frame) (f : Frame) → frames_cost e cost (fs ++ f ∷ []) ≡ frames_cost e cost fs + (cost f.position - f.next + e)
frames_cost-push e cost [] f = omega arith
frames_cost-push e cost (g ∷ fs) f = omega (arith, frames_cost-push e cost fs f)

-- what a search still costs
abbrev pub left : ℕ → (ℕ → ℕ) → List Bool → List Frame → ℕ
left e cost s fs = missing_cost (λ p. cost p + e) 0 s + frames_cost e cost fs

module _ (e : ℕ) (cost : ℕ → ℕ) (seen : List Bool) (front : List Frame) (f : Frame) where
  -- the last frame costs what its position has left, and e more
  pub left_done : left e cost seen (front ++ f ∷ []) ≡ left e cost seen front + (cost f.position - f.next + e)
  left_done = let a = frames_cost-push e cost front f in omega arith

  module _ (more : f.next < cost f.position) where
    -- a look costs one
    pub left_step : left e cost seen (front ++ at_place f.position (f.next + 1) ∷ []) + 1 ≡ left e cost seen (front ++ f ∷ [])
    left_step =
        let a = frames_cost-push e cost front f in
        let b = frames_cost-push e cost front (at_place f.position (f.next + 1)) in
        omega arith

-- a new frame costs what its position cost unseen
pub left_new : (e : ℕ) (cost : ℕ → ℕ) (seen : List Bool) (frames : List Frame) (p : ℕ) → has seen p ≡ false → p < length seen → left e cost (set seen p true) (frames ++ at_place p 0 ∷ []) ≡ left e cost seen frames
left_new e cost seen frames p lacks below =
    let m = missing_cost-set (λ q. cost q + e) 0 seen p p (omega arith) below lacks in
    let a = frames_cost-push e cost frames (at_place p 0) in
    omega arith

-- the links of the frame that were taken lead no higher; S x k y says that the link at place k of those at x leads to y, and is kept
pub record Ahead (S : ℕ → ℕ → ℕ → Type 0) (seen : List Bool) (h : ℕ → ℕ) (f : Frame) : Type 0 where
  pub inside : has seen f.position ≡ true
  pub taken : (k y : ℕ) → k < f.next → S f.position k y → Leads seen h f.position y

-- the state of a search by frames
pub record Searches (R : ℕ → ℕ → Type 0) (IsStart : ℕ → Type 0) (S : ℕ → ℕ → ℕ → Type 0) (limit : ℕ) (seen : List Bool) (frames : List Frame) (order : List ℕ) : Type 0 where
  pub height : ℕ → ℕ
  pub limit_is : length seen ≡ limit
  pub framed : All (λ f. f.position < limit) frames
  pub heights : Heights R IsStart seen (stack_of [] frames) order height
  pub ahead : All (Ahead S seen height) frames

module _ (S : ℕ → ℕ → ℕ → Type 0) where
  ahead_more : (seen : List Bool) (h : ℕ → ℕ) (f : Frame) → Ahead S seen h f → ((y : ℕ) → S f.position f.next y → Leads seen h f.position y) → Ahead S seen h (at_place f.position (f.next + 1))
  ahead_more seen h f a one = record {
    inside = a.inside;
    taken = λ k y below q. ⊎_elim
        (λ less. a.taken k y less q)
        (λ ge. let e : k ≡ f.next = omega arith in one y (subst (λ z. S f.position z y) e q))
        (cases_lt k f.next);
  }

  ahead_kept : (seen seen' : List Bool) (h h' : ℕ → ℕ) → ((x y : ℕ) → has seen x ≡ true → Leads seen h x y → Leads seen' h' x y) → ((x : ℕ) → has seen x ≡ true → has seen' x ≡ true) → (f : Frame) → Ahead S seen h f → Ahead S seen' h' f
  ahead_kept seen seen' h h' m grows f a = record {
    inside = grows f.position a.inside;
    taken = λ k y below q. m f.position y a.inside (a.taken k y below q);
  }

module _ (R : ℕ → ℕ → Type 0) (IsStart : ℕ → Type 0) (S : ℕ → ℕ → ℕ → Type 0) (limit : ℕ) (seen : List Bool) (order : List ℕ) where
  module _ (front : List Frame) (f : Frame) (s : Searches R IsStart S limit seen (front ++ f ∷ []) order) where
    framed_parts : All (λ g. g.position < limit) front × (f.position < limit)
    framed_parts = All-pop (λ (g : Frame). g.position < limit) (front ++ f ∷ []) front (Some f) refl s.framed

    ahead_parts : All (Ahead S seen s.height) front × Ahead S seen s.height f
    ahead_parts = All-pop (Ahead S seen s.height) (front ++ f ∷ []) front (Some f) refl s.ahead

    -- the heights are those of the stack of the frames
    pub top_heights : Heights R IsStart seen (f.position ∷ stack_of [] front) order s.height
    top_heights = subst (λ z. Heights R IsStart seen z order s.height) (stack_of-push [] front f) s.heights

    -- the top is a position
    pub top_below : f.position < limit
    top_below = framed_parts.1

    -- the top's next link was taken
    advanced : (h : ℕ → ℕ) → Heights R IsStart seen (f.position ∷ stack_of [] front) order h → All (Ahead S seen h) front → Ahead S seen h f → ((y : ℕ) → S f.position f.next y → Leads seen h f.position y) → Searches R IsStart S limit seen (front ++ at_place f.position (f.next + 1) ∷ []) order
    advanced h top ahead a one = record {
      height = h;
      limit_is = s.limit_is;
      framed = All-push (λ (g : Frame). g.position < limit) front (at_place f.position (f.next + 1)) framed_parts.0 framed_parts.1;
      heights = subst (λ z. Heights R IsStart seen z order h) (sym (stack_of-push [] front (at_place f.position (f.next + 1)))) top;
      ahead = All-push (Ahead S seen h) front (at_place f.position (f.next + 1)) ahead (ahead_more S seen h f a one);
    }

    -- it is not kept
    pub skipped : ((y : ℕ) → S f.position f.next y → ⊥) → Searches R IsStart S limit seen (front ++ at_place f.position (f.next + 1) ∷ []) order
    skipped none = advanced s.height top_heights ahead_parts.0 ahead_parts.1 (λ y q. absurd (none y q))

    module _ (v : ℕ) (r : R f.position v) (only : (y : ℕ) → S f.position f.next y → y ≡ v) where
      -- it leads to one that was seen
      pub taken_old : has seen v ≡ true → Searches R IsStart S limit seen (front ++ at_place f.position (f.next + 1) ∷ []) order
      taken_old v_in =
          let h = s.height in
          let h' : ℕ → ℕ = λ x. raise (h v) (h x) in
          let m : (g : Frame) → Ahead S seen h g → Ahead S seen h' g = ahead_kept S seen seen h h' (λ x y i d. (d.0, raise-mono (h v) (h y) (h x) d.1)) (λ x i. i) in
          let leads = raised_leads R IsStart seen f.position (stack_of [] front) order h top_heights v v_in r in
          advanced h' (raised R IsStart seen f.position (stack_of [] front) order h top_heights v v_in r)
          (All-weaker (Ahead S seen h) (Ahead S seen h') m front ahead_parts.0)
          (m f ahead_parts.1)
          (λ y q. subst (λ z. Leads seen h' f.position z) (sym (only y q)) leads)

      -- it leads to a new one
      pub taken_new : has seen v ≡ false → v < limit → Searches R IsStart S limit (set seen v true) ((front ++ at_place f.position (f.next + 1) ∷ []) ++ at_place v 0 ∷ []) order
      taken_new lacks below =
          let h = s.height in
          let u = f.position in
          let stack = f.position ∷ stack_of [] front in
          let mid = front ++ at_place f.position (f.next + 1) ∷ [] in
          let h' : ℕ → ℕ = put h v (unseen seen) in
          let seen' = set seen v true in
          let below' : v < length seen = let e = s.limit_is in omega arith in
          let source = s.heights.sound u ahead_parts.1.inside in
          let from : ReachedFrom R IsStart v = (source.0, source.1, step source.2 r) in
          let to_new : (x : ℕ) → In stack x → Walk R x v = λ x i. step (to_top R IsStart seen u (stack_of [] front) order h top_heights x (top_heights.stack_seen x i) (top_heights.opened x i)) r in
          let m : (g : Frame) → Ahead S seen h g → Ahead S seen' h' g = ahead_kept S seen seen' h h' (pushed_keeps R IsStart seen stack order h top_heights v below' lacks from to_new) (has-set_kept seen v) in
          let new : Ahead S seen' h' (at_place v 0) = record { inside = get_or-set_same seen v true false below'; taken = λ k y less q. absurd (omega arith) } in
          let leads = pushed_leads R IsStart seen stack order h top_heights v below' lacks from to_new u (inl refl) in
          let moved : Ahead S seen' h' (at_place f.position (f.next + 1)) = ahead_more S seen' h' f (m f ahead_parts.1) (λ y q. subst (λ z. Leads seen' h' u z) (sym (only y q)) leads) in
          let same : stack_of [] (mid ++ at_place v 0 ∷ []) ≡ v ∷ stack = stack_of-push [] mid (at_place v 0) ∙ ap (λ (z : List ℕ). v ∷ z) (stack_of-push [] front (at_place f.position (f.next + 1))) in
          record {
            height = h';
            limit_is = length-set seen v true ∙ s.limit_is;
            framed = All-push (λ (g : Frame). g.position < limit) mid (at_place v 0) (All-push (λ (g : Frame). g.position < limit) front (at_place f.position (f.next + 1)) framed_parts.0 framed_parts.1) below;
            heights = subst (λ z. Heights R IsStart seen' z order h') (sym same) (pushed R IsStart seen stack order h top_heights v below' lacks from to_new);
            ahead = All-push (Ahead S seen' h') mid (at_place v 0) (All-push (Ahead S seen' h') front (at_place f.position (f.next + 1)) (All-weaker (Ahead S seen h) (Ahead S seen' h') m front ahead_parts.0) moved) new;
          }

    -- each step from the top was taken
    pub finished : ((y : ℕ) → R f.position y → (k : ℕ) × (k < f.next) × S f.position k y) → Searches R IsStart S limit seen front (order ++ f.position ∷ [])
    finished all =
        let h = s.height in
        let leads : (y : ℕ) → R f.position y → Leads seen h f.position y = λ y r. let q = all y r in ahead_parts.1.taken q.0 y q.1 q.2 in
        let p = popped_top R IsStart seen f.position (stack_of [] front) order h top_heights leads in
        record {
          height = p.height;
          limit_is = s.limit_is;
          framed = framed_parts.0;
          heights = p.heights;
          ahead = All-weaker (Ahead S seen h) (Ahead S seen p.height) (ahead_kept S seen seen h p.height (λ x y i d. (d.0, p.mono y x d.1)) (λ x i. i)) front ahead_parts.0;
        }

  -- a start is new
  pub begun : Searches R IsStart S limit seen [] order → (v : ℕ) → has seen v ≡ false → v < limit → IsStart v → Searches R IsStart S limit (set seen v true) (at_place v 0 ∷ []) order
  begun s v lacks below start =
      let h = s.height in
      let below' : v < length seen = let e = s.limit_is in omega arith in
      let none : (x : ℕ) → In [] x → Walk R x v = λ x i. absurd i in
      let new : Ahead S (set seen v true) (put h v (unseen seen)) (at_place v 0) = record { inside = get_or-set_same seen v true false below'; taken = λ k y less q. absurd (omega arith) } in
      record {
        height = put h v (unseen seen);
        limit_is = length-set seen v true ∙ s.limit_is;
        framed = All-push (λ (g : Frame). g.position < limit) [] (at_place v 0) s.framed below;
        heights = pushed R IsStart seen [] order h s.heights v below' lacks (v, start, here) none;
        ahead = All-push (Ahead S (set seen v true) (put h v (unseen seen))) [] (at_place v 0) (All-nil _) new;
      }
