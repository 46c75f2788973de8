-- Walks inside sets that hold each component that they touch.
use Rattle.std.proofs.Common.{◌≡◌, ◌⊎◌, ◌↔◌, ℕ, zero, suc, ◌-◌, ◌<◌, Bool, true, inl, inr, List, [], ◌∷◌, length, sym, subst, arith, Some}
use Rattle.std.specs.Prelude.{slice_get, Contains}
use Rattle.std.proofs.lemmas.Bool.{cases_eq}
use Rattle.std.proofs.lemmas.Option.{slice_get_within}
use Rattle.guppy_search.specs.declared.ix.direction.DependencyDirection.{DependencyDirection}
use Rattle.guppy_search.specs.declared.ix.direction.DependencyDirection.TheVariants.{Forward, Reverse}
use Rattle.guppy_search.specs.declared.graph_core.link.Link.{Link}
use Rattle.guppy_search.specs.Links.{near_end}
use Rattle.guppy_search.specs.IxSet.{IsIn}
use Rattle.guppy_core.specs.Listing.{Stands}
use Rattle.guppy_search.specs.Reach.{LinkStep, Walk, here, step, ReachedFrom, Mutual}
use Rattle.guppy_core.specs.Roots.{IsRoot}
use Rattle.guppy_core.specs.Sccs.{AreSccs}
use Rattle.guppy_search.specs.Walked.{StepInside, IsLinkInside, HoldsComponents, AreWalked}
use Rattle.guppy_search.proofs.Lists.{nothing_in, Contains-first, Contains-later, Contains-cons_cases}
use Rattle.guppy_search.proofs.Walks.{walk_on, walk_from, walk_back, step_back, step_forth}
use Rattle.guppy_search.proofs.WalkedLinks.{near_inside}
use Rattle.guppy_core.proofs.Blocks.{sccs_cover, sccs_members, sccs_steps}

contains_or_not : (xs : List ℕ) (n : ℕ) → Contains xs n ⊎ (¬ Contains xs n)
contains_or_not [] n = inr (nothing_in n)
contains_or_not (x ∷ xs) n = elim (cases_eq x n) [
  | inl e ↦ inl (subst (Contains (x ∷ xs)) e (Contains-first x xs))
  | inr differ ↦ elim (contains_or_not xs n) [
    | inl c ↦ inl (Contains-later x n xs c)
    | inr absent ↦ inr (λ c. elim (Contains-cons_cases x n xs c) [ inl e ↦ differ e | inr k ↦ absent k ])
  ]
]

module _ {E : Type 0} (links : List (Link E)) (set : List Bool) (holds : HoldsComponents links set) where
  -- a walk that leads back stays in the set
  walk_inside : {x y : ℕ} → IsIn set x → Walk (LinkStep Forward links) x y → Walk (LinkStep Forward links) y x → Walk (StepInside (LinkStep Forward links) set) x y
  walk_inside h here back = here
  walk_inside h (step {a} {b} {c} w s) back =
      let from_b = walk_from s back in
      step (walk_inside h w from_b) (s, holds a b h (w, from_b), holds a c h (step w s, back))

  turned : (x y : ℕ) → StepInside (LinkStep Forward links) set x y → StepInside (LinkStep Reverse links) set y x
  turned x y s = (step_back (λ _. true) links x y s.0, s.2, s.1)

  -- so in both directions
  walk_inside_in : (d : DependencyDirection) (x y : ℕ) → IsIn set x → IsIn set y → Mutual (LinkStep Forward links) x y → Walk (StepInside (LinkStep d links) set) x y
  walk_inside_in Forward x y hx hy both = walk_inside hx both.0 both.1
  walk_inside_in Reverse x y hx hy both = walk_back (StepInside (LinkStep Forward links) set) (StepInside (LinkStep Reverse links) set) turned (walk_inside hy both.1 both.0)

  module _ (n : ℕ) (within : (p : ℕ) → IsIn set p → p < n) (order : List ℕ) (blocks : List (List ℕ)) (sccs : AreSccs (LinkStep Forward links) n order blocks) where
    -- how many blocks may come before one in the direction
    rank : DependencyDirection → ℕ → ℕ
    rank Forward c = c
    rank Reverse c = length blocks - c

    -- a step into a block from another one comes from an earlier block
    ranked : (d : DependencyDirection) (x y : ℕ) → LinkStep d links x y → (a c : ℕ) (p q : List ℕ) → slice_get blocks a ≡ Some p → slice_get blocks c ≡ Some q → Stands p x → Stands q y → (a ≡ c → ⊥) → rank d a < rank d c
    unfolding rank
    ranked Forward x y s a c p q at_a at_c near far differ = sccs_steps (LinkStep Forward links) n order blocks sccs a c p q x y at_a at_c near far s differ
    ranked Reverse x y s a c p q at_a at_c near far differ =
        let later = sccs_steps (LinkStep Forward links) n order blocks sccs c a q p y x at_c at_a far near (step_forth (λ _. true) links x y s) (λ e. differ (sym e)) in
        let below = slice_get_within blocks a p at_a in
        omega arith

    abbrev IsRootOf : DependencyDirection → ℕ → Type 0
    IsRootOf d = IsRoot (LinkStep d links) (Mutual (LinkStep Forward links)) set

    -- it can't be that no root leads to a position of the set
    led_to : (d : DependencyDirection) (most : ℕ) (x c : ℕ) (b : List ℕ) → IsIn set x → slice_get blocks c ≡ Some b → Stands b x → rank d c < most
        → (ReachedFrom (StepInside (LinkStep d links) set) (IsRootOf d) x → ⊥) → ⊥
    led_to d zero x c b h at stands low none = omega arith
    led_to d (suc most) x c b h at stands low none =
        none (
          x,
          (
            h,
            λ entered.
                let u = entered.0 in
                let u_inside = entered.1 in
                let v = entered.2.0 in
                let across = entered.2.1 in
                let v_inside = entered.2.2 in
                let x_to_v = entered.2.3 in
                let source = sccs_cover (LinkStep Forward links) n order blocks sccs u (within u u_inside) in
                let v_stands = (sccs_members (LinkStep Forward links) n order blocks sccs c b x v at stands).1 (within v v_inside, x_to_v) in
                let differ : source.0 ≡ c → ⊥ = λ e.
                let there = source.2 in
                let blocks_are : source.1 ≡ b = cc in
                let together = (sccs_members (LinkStep Forward links) n order blocks sccs c b x u at stands).0 (subst (λ z. Stands z u) blocks_are source.3) in
                entered.2.4 together.1 in
                let less = ranked d u v across source.0 c source.1 b source.2 at source.3 v_stands differ in
                let lower : rank d source.0 < most = omega arith in
                led_to d most u source.0 source.1 u_inside source.2 source.3 lower (λ r.
                none (r.0, r.1, walk_on (step r.2 (across, u_inside, v_inside)) (walk_inside_in d v x v_inside h (x_to_v.1, x_to_v.0)))),
          ),
          here,
        )

    -- the links that are walked from the roots are all links inside
    pub walked_all : (d : DependencyDirection) (listed : List ℕ) → AreWalked d links set (IsRootOf d) listed → (m : ℕ) → Contains listed m ↔ IsLinkInside links set m
    walked_all d listed are m = (
      λ c. let w = (are.walked m).0 c in (w.link, w.found, w.inside),
      λ i. elim (contains_or_not listed m) [
        | inl c ↦ c
        | inr absent ↦
            let x = near_end d i.0 in
            let h = near_inside set i.0 d i.2 in
            let block = sccs_cover (LinkStep Forward links) n order blocks sccs x (within x h) in
            absurd (led_to d (suc (rank d block.0)) x block.0 block.1 h block.2 block.3 (omega arith)
            (λ r. absent ((are.walked m).1 (record { link = i.0; found = i.1; inside = i.2; reached = r }))))
      ],
    )
