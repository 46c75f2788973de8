-- Cycles and components.
use Rattle.std.proofs.Common.{◌≡◌, ◌⊎◌, ⊎_elim, inl, inr, ◌∙◌, sym, ap, refl, subst, arith, ℕ, zero, suc, ◌<◌, List, length, get_or, Some, All, Option, None, true, slice_get, Bool}
use Rattle.std.specs.Prelude.{◌↔◌, MatchOption, is_some}
use Rattle.std.proofs.lemmas.Bool.{cases_eq}
use Rattle.std.proofs.lemmas.Option.{slice_get_within, slice_get-get_or, get_or_from_slice_get}
use Rattle.guppy_search.specs.declared.graph_core.link.Link.{Link}
use Rattle.guppy_search.specs.declared.ix.direction.DependencyDirection.TheVariants.{Forward}
use Rattle.guppy_search.specs.Graph.{NoLink, LinkIs}
use Rattle.guppy_search.specs.Links.{EndsBelow}
use Rattle.guppy_core.specs.Listing.{Stands}
use Rattle.guppy_search.specs.Reach.{LinkStep, Walk}
use Rattle.guppy_search.specs.Reach.Walk.{here, step}
use Rattle.guppy_core.specs.Sccs.{AreSccs, InOneBlock, InLargeBlock}
use Rattle.guppy_search.proofs.Walks.{walk_on}
use Rattle.guppy_core.proofs.Blocks.{sccs_below, sccs_cover, sccs_members, sccs_once}
use Rattle.guppy_graph.specs.Cycles.{LeadsTo, HaveCycle, AreCyclic}
use Rattle.guppy_graph.specs.Graph.{GraphData}
use Rattle.guppy_graph.specs.Ids.{HasId, DistinctBelow}
use Rattle.guppy_graph.proofs.PackageIds.{position_is}

leads_away : {R : ℕ → ℕ → Type 0} {x y : ℕ} → (x ≡ y → ⊥) → Walk R x y → LeadsTo R x y
leads_away apart here = absurd (apart refl)
leads_away apart (step w r) = (_, w, r)

leads_round : {R : ℕ → ℕ → Type 0} {x y : ℕ} → (y ≡ x → ⊥) → Walk R x y → Walk R y x → LeadsTo R x x
leads_round apart w here = absurd (apart refl)
leads_round apart w (step v r) = (_, walk_on w v, r)

another : (b : List ℕ) (i : ℕ) → 1 < length b → (j : ℕ) × (j < length b) × (i ≡ j → ⊥)
another b zero long = (1, long, λ e. omega arith)
another b (suc i) long = (0, omega arith, λ e. omega arith)

two_below : (i j n : ℕ) → i < n → j < n → (i ≡ j → ⊥) → 1 < n
two_below i j zero a b ne = absurd (omega arith)
two_below i j (suc zero) a b ne = absurd (ne (omega arith))
two_below i j (suc (suc n)) a b ne = omega arith

-- two or more members, or a step from one to itself
abbrev pub IsCyclicBlock : (ℕ → ℕ → Type 0) → List ℕ → Type 0
IsCyclicBlock R b = (1 < length b) ⊎ ((x : ℕ) × Stands b x × R x x)

module _ (R : ℕ → ℕ → Type 0) (n : ℕ) (index : List ℕ) (blocks : List (List ℕ)) (are : AreSccs R n index blocks) where
  -- different positions are on a cycle where they stand in one block
  pub cycle_of_two : (p q : ℕ) → p < n → q < n → (p ≡ q → ⊥) → InOneBlock blocks p q ↔ HaveCycle R p q
  cycle_of_two p q low_p low_q apart = (
    λ s. let w = (are.classes p q low_p low_q).0 s in (leads_away apart w.0, leads_away (λ e. apart (sym e)) w.1),
    λ h. (are.classes p q low_p low_q).1 (step h.0.1 h.0.2, step h.1.1 h.1.2),
  )

  large_block : (p z c : ℕ) (b : List ℕ) → slice_get blocks c ≡ Some b → Stands b p → Stands b z → (z ≡ p → ⊥) → 1 < length b
  large_block p z c b at s t apart =
      let w = slice_get_within b s.0 p s.1 in
      let v = slice_get_within b t.0 z t.1 in
      let other : s.0 ≡ t.0 → ⊥ = λ e. absurd (apart (let u : slice_get b s.0 ≡ Some z = subst (λ k. slice_get b k ≡ Some z) (sym e) t.1 in cc)) in
      ⊎_elim (λ e. absurd (other e)) (λ ne. two_below s.0 t.0 (length b) w v ne) (cases_eq s.0 t.0)

  large : (p : ℕ) → p < n → (z : ℕ) → (z ≡ p → ⊥) → z < n → Walk R p z → R z p → InLargeBlock blocks p
  large p low z apart low_z w r =
      let s = (are.classes p z low low_z).1 (w, step here r) in
      (s.0, s.1, s.2, s.3, large_block p z s.0 s.1 s.2 s.3 s.4 apart)

  round : (p : ℕ) → InLargeBlock blocks p → LeadsTo R p p
  round p (c, b, at, s, long) =
      let j = another b s.0 long in
      let y : ℕ = get_or b j.0 0 in
      let there : slice_get b j.0 ≡ Some (get_or b j.0 0) = slice_get-get_or b j.0 0 j.1 in
      let w = ((sccs_members R n index blocks are c b p (get_or b j.0 0) at s).0 (j.0, there)).1 in
      leads_round (λ e. j.2 (sccs_once R n index blocks are c b s.0 j.0 p at s.1 (there ∙ ap Some e))) w.0 w.1

  -- a position is on a cycle with itself where its block is large, or a step leads from it to itself
  pub cycle_of_one : ((x y : ℕ) → R x y → x < n) → (p : ℕ) → p < n → (InLargeBlock blocks p ⊎ R p p) ↔ HaveCycle R p p
  cycle_of_one below p low = (
    λ h. ⊎_elim (λ l. let r = round p l in (r, r)) (λ r. ((p, here, r), (p, here, r))) h,
    λ h. ⊎_elim (λ e. inr (subst (λ v. R v p) e h.0.2)) (λ ne. inl (large p low h.0.0 ne (below h.0.0 p h.0.2) h.0.1 h.0.2)) (cases_eq h.0.0 p),
  )

  -- positions that are on a cycle stand in one block, which is large or has a step from one of it to itself
  pub block_of_cycle : ((x y : ℕ) → R x y → x < n) → (p q : ℕ) → p < n → q < n → HaveCycle R p q
      → (c : ℕ) × (b : List ℕ) × (slice_get blocks c ≡ Some b) × Stands b p × Stands b q × IsCyclicBlock R b
  block_of_cycle below p q low_p low_q h = ⊎_elim
      (λ same. ⊎_elim
      (λ l. (l.0, l.1, l.2, l.3, subst (Stands l.1) same l.3, inl l.4))
      (λ r. let s = sccs_cover R n index blocks are p low_p in (s.0, s.1, s.2, s.3, subst (Stands s.1) same s.3, inr (p, s.3, r)))
      ((cycle_of_one below p low_p).1 (subst (λ v. HaveCycle R p v) (sym same) h)))
      (λ apart. let o = (cycle_of_two p q low_p low_q apart).1 h in
      (o.0, o.1, o.2, o.3, o.4, inl (large_block q p o.0 o.1 o.2 o.4 o.3 apart)))
      (cases_eq p q)

  -- those of such a block are on a cycle
  pub cycle_of_block : ((x y : ℕ) → R x y → x < n) → (c : ℕ) (b : List ℕ) (p q : ℕ) → slice_get blocks c ≡ Some b → Stands b p → Stands b q → IsCyclicBlock R b → HaveCycle R p q
  cycle_of_block below c b p q at has_p has_q cyclic =
      let low_p = sccs_below R n index blocks are c b p at has_p in
      ⊎_elim
      (λ same. subst (λ v. HaveCycle R p v) same ((cycle_of_one below p low_p).0 (⊎_elim
      (λ long. inl (c, b, at, has_p, long))
      (λ l. ⊎_elim (λ e. inr (subst (λ v. R v v) e l.2)) (λ ne. inl (c, b, at, has_p, large_block p l.0 c b at has_p l.1 ne)) (cases_eq l.0 p))
      cyclic)))
      (λ apart. (cycle_of_two p q low_p (sccs_below R n index blocks are c b q at has_q) apart).0 (c, b, at, has_p, has_q))
      (cases_eq p q)

  -- the members of the blocks are positions
  pub blocks_below : All (All (λ p. p < n)) blocks
  blocks_below c b within i p within_b =
      sccs_below R n index blocks are c (get_or blocks c b) (get_or (get_or blocks c b) i p) (slice_get-get_or blocks c b within) (i, slice_get-get_or (get_or blocks c b) i p within_b)

-- the position that a link leaves is one of the graph
pub near_below : {E : Type 0} (n : ℕ) (links : List (Link E)) → All (EndsBelow n) links → (x y : ℕ) → LinkStep Forward links x y → x < n
near_below n links ends x y s =
    let at = slice_get_within links s.number s.link s.found in
    let low = ends s.number s.link at in
    let is = get_or_from_slice_get links s.number s.link s.link s.found in
    subst (λ v. v < n) s.near (subst (λ l. EndsBelow n l) is low).0

-- a link from a position to itself is found where one is there
pub loop_found : {E : Type 0} (links : List (Link E)) (p : ℕ) (number : Option ℕ) → MatchOption number (NoLink links p p) (LinkIs links p p) → (is_some number ≡ true) ↔ LinkStep Forward links p p
loop_found links p (Some n) l = (λ _. record { number = n; link = l.0; found = l.1; near = l.2; far = l.3; kept = refl }, λ _. refl)
loop_found links p None none = (λ h. absurd (cc), λ s. absurd (none s.number (s.link, s.found, s.near, s.far)))

-- packages are on a cycle where their positions are
pub cyclic_by_positions : (g : GraphData) → DistinctBelow g.packages (length g.packages) → (a b : List ℕ) (p q : ℕ) → HasId g.packages a p → HasId g.packages b q → (cyclic : Bool) → (cyclic ≡ true) ↔ HaveCycle (LinkStep Forward g.links) p q → (cyclic ≡ true) ↔ AreCyclic g a b
cyclic_by_positions g distinct a b p q has_a has_b cyclic same = (
  λ h. (p, q, has_a, has_b, same.0 h),
  λ d. same.1 (subst (λ x. HaveCycle (LinkStep Forward g.links) x q) (position_is g.packages distinct a d.0 p d.2 has_a)
      (subst (λ y. HaveCycle (LinkStep Forward g.links) d.0 y) (position_is g.packages distinct b d.1 q d.3 has_b) d.4)),
)
