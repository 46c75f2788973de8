-- A depth-first search under way, and each of its steps.
use Rattle.std.proofs.Common.{◌≡◌, ℕ, ◌+◌, ◌<◌, ◌≤◌, List, [], ◌∷◌, ◌++◌, length, get_or, replicate, arith, Bool, true, false, not, refl, sym, ap, ◌∙◌, subst, ⊎_elim, Some}
use Rattle.std.specs.Prelude.{All, Contains, slice_get}
use Rattle.std.proofs.Math.ListN.{set, length-replicate}
use Rattle.std.proofs.lemmas.Bool.{cases_lt, not-false}
use Rattle.std.proofs.lemmas.List.{get_or_default, set-get_or, get_or-set_same}
use Rattle.std.proofs.lemmas.List.Elements.{All-nil, Contains-get_or}
use Rattle.guppy_search.specs.declared.ix.direction.DependencyDirection.{DependencyDirection}
use Rattle.guppy_search.specs.declared.graph_core.link.Link.{Link}
use Rattle.guppy_search.specs.Links.{near_end, far_end, links_at}
use Rattle.guppy_search.specs.Graph.{GraphValue, IsGraph}
use Rattle.guppy_search.specs.Reach.{Step}
use Rattle.guppy_search.proofs.Rows.{row_links, row_has}
use Rattle.guppy_search.specs.IxSet.{has}
use Rattle.guppy_core.specs.Finish.{IsFinishList}
use Rattle.guppy_core.specs.Listing.{Stands}
use Rattle.guppy_core.specs.Noted.{note, AreNoted}
use Rattle.guppy_core.specs.declared.topo.finish.Frame.{Frame}
use Rattle.guppy_core.proofs.Inserts.{has-set_kept}
use Rattle.guppy_search.proofs.Members.{IsIn-below, has-replicate}
use Rattle.guppy_search.proofs.SearchSteps.{far_end_below}
use Rattle.std.proofs.lemmas.Option.{slice_get-get_or}
use Rattle.guppy_core.specs.Cost.{missing_cost, AreLookedAt}
use Rattle.guppy_core.proofs.Costs.{owed_first, degree}
use Rattle.guppy_core.proofs.Heights.{none_seen, all_placed, finished_all}
use Rattle.guppy_core.proofs.Frames.{at_place, left, left_done, left_step, left_new, Searches, top_below, skipped, taken_old, taken_new, finished, begun}

-- the link at place k of those at x is kept, and leads to y
pub record LinkTo {E : Type 0} (d : DependencyDirection) (keep : E → Bool) (links : List (Link E)) (x k y : ℕ) : Type 0 where
  pub within : k < length (links_at d links x)
  pub link : Link E
  pub found : slice_get links (get_or (links_at d links x) k 0) ≡ Some link
  pub far : far_end d link ≡ y
  pub kept : keep link.edge ≡ true

-- what a look at that link showed
pub record Looked {E : Type 0} (d : DependencyDirection) (keep : E → Bool) (links : List (Link E)) (x k y : ℕ) (keeps : Bool) : Type 0 where
  pub within : k < length (links_at d links x)
  pub link : Link E
  pub found : slice_get links (get_or (links_at d links x) k 0) ≡ Some link
  pub far : far_end d link ≡ y
  pub kept : keep link.edge ≡ keeps

module _ {E : Type 0} (d : DependencyDirection) (keep : E → Bool) (links : List (Link E)) where
  pub step_at : (x k y : ℕ) → LinkTo d keep links x k y → Step d keep links x y
  step_at x k y l =
      let at = row_links d links x k l.within in
      let same : at.link ≡ l.link = let f = at.found in let f' = l.found in cc in
      record { number = get_or (links_at d links x) k 0; link = l.link; found = l.found; near = subst (λ z. near_end d z ≡ x) same at.near; far = l.far; kept = l.kept }

  pub step_place : (x y : ℕ) → Step d keep links x y → (k : ℕ) × (k < degree d links x) × LinkTo d keep links x k y
  step_place x y t =
      let c = row_has d links x t.number t.link t.found t.near in
      let same : get_or (links_at d links x) c.0 0 ≡ t.number = get_or_default (links_at d links x) c.0 0 t.number c.1 ∙ c.2 in
      let found : slice_get links (get_or (links_at d links x) c.0 0) ≡ Some t.link = rw same t.found in
      (c.0, c.1, record { within = c.1; link = t.link; found = found; far = t.far; kept = t.kept })

  module _ (x k y : ℕ) (b : Bool) (l : Looked d keep links x k y b) where
    pub looked_none : b ≡ false → (z : ℕ) → LinkTo d keep links x k z → ⊥
    looked_none e z t =
        let same : l.link ≡ t.link = let f = l.found in let f' = t.found in cc in
        let no : keep t.link.edge ≡ false = subst (λ (z : Link E). keep z.edge ≡ false) same (l.kept ∙ e) in
        absurd (let yes = t.kept in cc)

    pub looked_only : (z : ℕ) → LinkTo d keep links x k z → z ≡ y
    looked_only z t =
        let same : l.link ≡ t.link = let f = l.found in let f' = t.found in cc in
        sym t.far ∙ (ap (λ (z : Link E). far_end d z) (sym same) ∙ l.far)

    pub looked_link : b ≡ true → LinkTo d keep links x k y
    looked_link e = record { within = l.within; link = l.link; found = l.found; far = l.far; kept = l.kept ∙ e }

    pub looked_step : b ≡ true → Step d keep links x y
    looked_step e = step_at x k y (looked_link e)

pub looked_from : {N E : Type 0} (d : DependencyDirection) (keep : E → Bool) (graph now : GraphValue N E) → now ≡ graph → (x k n y : ℕ) (e : E) (b : Bool) → k < degree d graph.links x → n ≡ get_or (links_at d now.links x) k 0 → (l : Link E) × (slice_get now.links n ≡ Some l) × (near_end d l ≡ x) × (far_end d l ≡ y) × (l.edge ≡ e) → b ≡ keep e → Looked d keep graph.links x k y b
looked_from {N} {E} d keep graph now same x k n y e b within number l is = record {
  within = within;
  link = l.0;
  found =
      let at_number : slice_get graph.links n ≡ Some l.0 = subst (λ (z : GraphValue N E). slice_get z.links n ≡ Some l.0) same l.1 in
      let same_number : n ≡ get_or (links_at d graph.links x) k 0 = subst (λ (z : GraphValue N E). n ≡ get_or (links_at d z.links x) k 0) same number in
      subst (λ z. slice_get graph.links z ≡ Some l.0) same_number at_number;
  far = l.3;
  kept = ap keep l.4 ∙ sym is;
}

-- a look at a link, and what its note says
pub looked_noted : {N E : Type 0} (d : DependencyDirection) (keep : E → Bool) (graph now : GraphValue N E) → now ≡ graph → (notes : List Bool) → AreNoted keep graph.links notes → (x k n y : ℕ) (e : E) (b : Bool) → k < degree d graph.links x → n ≡ get_or (links_at d now.links x) k 0 → (l : Link E) × (slice_get now.links n ≡ Some l) × (near_end d l ≡ x) × (far_end d l ≡ y) × (l.edge ≡ e) → b ≡ note notes n → Looked d keep graph.links x k y b
looked_noted {N} {E} d keep graph now same notes noted x k n y e b within number l is =
    let found : slice_get graph.links n ≡ Some l.0 = subst (λ (z : GraphValue N E). slice_get z.links n ≡ Some l.0) same l.1 in
    looked_from d keep graph now same x k n y e b within number l (is ∙ (noted n l.0 found ∙ ap keep l.4))

pub looked_below : {N E : Type 0} (d : DependencyDirection) (keep : E → Bool) (graph : GraphValue N E) → IsGraph graph → (x k y : ℕ) (b : Bool) → Looked d keep graph.links x k y b → y < length graph.nodes
looked_below d keep graph g x k y b l = subst (λ z. z < length graph.nodes) l.far (far_end_below d graph.links (length graph.nodes) (get_or (links_at d graph.links x) k 0) l.link l.found g.ends)

-- a search whose first i starts were seen, and which would look bound times if it came to all links
pub record Finishing {N E : Type 0} (d : DependencyDirection) (keep : E → Bool) (graph : GraphValue N E) (starts : List ℕ) (i bound looks : ℕ) (seen : List Bool) (frames : List Frame) (order : List ℕ) : Type 0 where
  pub state : Searches (Step d keep graph.links) (Contains starts) (LinkTo d keep graph.links) (length graph.nodes) seen frames order
  pub begun : (k : ℕ) → k < i → has seen (get_or starts k 0) ≡ true
  pub paid : looks + left 0 (degree d graph.links) seen frames ≡ bound

set_in : (s : List Bool) (p : ℕ) → has s p ≡ true → set s p true ≡ s
set_in s p h = subst (λ b. set s p b ≡ s) h (set-get_or s p false)

pub no_more : (cost : ℕ → ℕ) (i : ℕ) (s : List Bool) → missing_cost (λ p. cost p + 0) i s ≡ missing_cost cost i s
no_more cost i [] = refl
no_more cost i (true ∷ s) = no_more cost (i + 1) s
no_more cost i (false ∷ s) = let r = no_more cost (i + 1) s in omega arith

module _ {N E : Type 0} (d : DependencyDirection) (keep : E → Bool) (graph : GraphValue N E) (starts : List ℕ) where
  pub finishing_first : (n looks : ℕ) → n ≡ length graph.nodes → IsGraph graph → Finishing d keep graph starts 0 (looks + length graph.links) looks (replicate n false) [] []
  finishing_first n looks e g = record {
    state = record {
      height = λ _. 0;
      limit_is = length-replicate n false ∙ e;
      framed = All-nil _;
      heights = none_seen (Step d keep graph.links) (Contains starts) (replicate n false) (has-replicate n);
      ahead = All-nil _;
    };
    begun = λ k h. absurd (omega arith);
    paid = let a = no_more (degree d graph.links) 0 (replicate n false) in let b = owed_first d graph.links n (rw e g.ends) in omega arith;
  }

  module _ (i bound looks : ℕ) (seen : List Bool) (order : List ℕ) where
    -- the next start was seen before
    pub start_old : (frames : List Frame) → Finishing d keep graph starts i bound looks seen frames order → has seen (get_or starts i 0) ≡ true → Finishing d keep graph starts (i + 1) bound looks seen frames order
    start_old frames s old = record {
      state = s.state;
      begun = λ k h. ⊎_elim (λ less. s.begun k less) (λ ge. let e : k ≡ i = omega arith in subst (λ z. has seen (get_or starts z 0) ≡ true) (sym e) old) (cases_lt k i);
      paid = s.paid;
    }

    -- it is new
    pub start_new : Finishing d keep graph starts i bound looks seen [] order → (v : ℕ) → v ≡ get_or starts i 0 → i < length starts → v < length graph.nodes → has seen v ≡ false → Finishing d keep graph starts (i + 1) bound looks (set seen v true) (at_place v 0 ∷ []) order
    start_new s v at within below lacks =
        let same = s.state.limit_is in
        let below' : v < length seen = omega arith in
        record {
          state = begun (Step d keep graph.links) (Contains starts) (LinkTo d keep graph.links) (length graph.nodes) seen order s.state v lacks below (subst (λ z. Contains starts z) (sym at) (Contains-get_or starts i 0 within));
          begun = λ k h. ⊎_elim
              (λ less. has-set_kept seen v (get_or starts k 0) (s.begun k less))
              (λ ge. let e : k ≡ i = omega arith in subst (λ z. has (set seen v true) z ≡ true) (at ∙ ap (λ (z : ℕ). get_or starts z 0) (sym e)) (get_or-set_same seen v true false below'))
              (cases_lt k i);
          paid = let a = left_new 0 (degree d graph.links) seen [] v lacks below' in let b = s.paid in omega arith;
        }

    module _ (front : List Frame) (f : Frame) (s : Finishing d keep graph starts i bound looks seen (front ++ f ∷ []) order) where
      pub finishing_below : f.position < length graph.nodes
      finishing_below = top_below (Step d keep graph.links) (Contains starts) (LinkTo d keep graph.links) (length graph.nodes) seen order front f s.state

      -- one more look is paid for
      pub look_paid : f.next < degree d graph.links f.position → looks + 1 ≤ bound
      look_paid more = let a = left_step 0 (degree d graph.links) seen front f more in let p = s.paid in omega arith

      -- the top's row was taken
      pub finishing_done : degree d graph.links f.position ≤ f.next → Finishing d keep graph starts i bound looks seen front (order ++ f.position ∷ [])
      finishing_done all = record {
        state = finished (Step d keep graph.links) (Contains starts) (LinkTo d keep graph.links) (length graph.nodes) seen order front f s.state (λ y r. let p = step_place d keep graph.links f.position y r in (p.0, (let a = p.1 in omega arith), p.2));
        begun = s.begun;
        paid = let a = left_done 0 (degree d graph.links) seen front f in let b = s.paid in omega arith;
      }

      module _ (v : ℕ) (b : Bool) (l : Looked d keep graph.links f.position f.next v b) where
        mid_paid : (looks + 1) + left 0 (degree d graph.links) seen (front ++ at_place f.position (f.next + 1) ∷ []) ≡ bound
        mid_paid = let a = left_step 0 (degree d graph.links) seen front f l.within in let p = s.paid in omega arith

        pub link_skipped : b ≡ false → Finishing d keep graph starts i bound (looks + 1) seen (front ++ at_place f.position (f.next + 1) ∷ []) order
        link_skipped drops = record {
          state = skipped (Step d keep graph.links) (Contains starts) (LinkTo d keep graph.links) (length graph.nodes) seen order front f s.state (looked_none d keep graph.links f.position f.next v b l drops);
          begun = s.begun;
          paid = mid_paid;
        }

        pub link_old : b ≡ true → has seen v ≡ true → Finishing d keep graph starts i bound (looks + 1) seen (front ++ at_place f.position (f.next + 1) ∷ []) order
        link_old keeps old = record {
          state = taken_old (Step d keep graph.links) (Contains starts) (LinkTo d keep graph.links) (length graph.nodes) seen order front f s.state v (looked_step d keep graph.links f.position f.next v b l keeps) (looked_only d keep graph.links f.position f.next v b l) old;
          begun = s.begun;
          paid = mid_paid;
        }

        pub link_new : b ≡ true → has seen v ≡ false → v < length graph.nodes → Finishing d keep graph starts i bound (looks + 1) (set seen v true) ((front ++ at_place f.position (f.next + 1) ∷ []) ++ at_place v 0 ∷ []) order
        link_new keeps new below = record {
          state = taken_new (Step d keep graph.links) (Contains starts) (LinkTo d keep graph.links) (length graph.nodes) seen order front f s.state v (looked_step d keep graph.links f.position f.next v b l keeps) (looked_only d keep graph.links f.position f.next v b l) new below;
          begun = λ k h. has-set_kept seen v (get_or starts k 0) (s.begun k h);
          paid = let same = s.state.limit_is in let e = left_new 0 (degree d graph.links) seen (front ++ at_place f.position (f.next + 1) ∷ []) v new (omega arith) in let p = mid_paid in omega arith;
        }

    pub looks_paid : (frames : List Frame) → Finishing d keep graph starts i bound looks seen frames order → looks ≤ bound
    looks_paid frames s = let p = s.paid in omega arith

    pub finishing_positions : (frames : List Frame) → Finishing d keep graph starts i bound looks seen frames order → All (λ p. p < length graph.nodes) order
    finishing_positions frames s k e h =
        let t = s.state.heights.order_seen (get_or order k e) (k, slice_get-get_or order k e h) in
        let a = IsIn-below seen (get_or order k e) t in
        let b = s.state.limit_is in
        omega arith

    -- no frame is left, so each link that leaves one of the order was looked at, and no other
    pub finishing_looked : (first : ℕ) → bound ≡ first + length graph.links → Finishing d keep graph starts i bound looks seen [] order → AreLookedAt d graph.links (length graph.nodes) (Stands order) first looks
    finishing_looked first is s = record {
      set = seen;
      count = s.state.limit_is;
      members = λ p. (
        all_placed (Step d keep graph.links) (Contains starts) seen order s.state.height s.state.heights p,
        λ t. s.state.heights.order_seen p t,
      );
      looked = let a = no_more (degree d graph.links) 0 seen in let b = s.paid in omega arith;
    }

    -- all starts were seen, and no frame is left
    pub finishing_all : Finishing d keep graph starts i bound looks seen [] order → length starts ≤ i → IsFinishList (Step d keep graph.links) (Contains starts) order
    finishing_all s all = finished_all (Step d keep graph.links) (Contains starts) seen order s.state.height s.state.heights (λ x c.
        let same : get_or starts c.0 0 ≡ x = get_or_default starts c.0 0 x c.1 ∙ c.2 in
        subst (λ z. has seen z ≡ true) same (s.begun c.0 (let b = c.1 in omega arith)))

-- an insert of one that was there changes nothing
pub inserted_old : (s s' : List Bool) (p : ℕ) (new : Bool) → new ≡ not (has s p) → s' ≡ set s p true → new ≡ false → s' ≡ s
inserted_old s s' p new is after e = after ∙ set_in s p (not-false (has s p) (sym is ∙ e))

-- the measure falls
module _ (cost : ℕ → ℕ) (seen : List Bool) (frames front mid : List Frame) (f : Frame) (items : frames ≡ front ++ f ∷ []) where
  pub smaller_done : left 1 cost seen front < left 1 cost seen frames
  smaller_done = rw items (let a = left_done 1 cost seen front f in omega arith)

  module _ (more : f.next < cost f.position) (mid_is : mid ≡ front ++ at_place f.position (f.next + 1) ∷ []) where
    pub smaller_step : left 1 cost seen mid < left 1 cost seen frames
    smaller_step = rw (items, mid_is) (let a = left_step 1 cost seen front f more in omega arith)

    pub smaller_new : (v : ℕ) (top : List Frame) → has seen v ≡ false → v < length seen → top ≡ mid ++ at_place v 0 ∷ [] → left 1 cost (set seen v true) top < left 1 cost seen frames
    smaller_new v top lacks below top_is = rw top_is (let a = left_new 1 cost seen mid v lacks below in let b = smaller_step in omega arith)
