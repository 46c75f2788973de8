use Rattle.std.proofs.Common.{◌≡◌, ◌∙◌, ◌<◌, ℕ, List, length, Some, refl, sym, ap, subst, arith}
use Rattle.std.specs.Prelude.{slice_get}
use Rattle.std.specs.List.{concat}
use Rattle.std.proofs.lemmas.List.{length-map}
use Rattle.guppy_search.specs.Reach.{LinkStep, Mutual}
use Rattle.guppy_search.specs.declared.ix.direction.DependencyDirection.TheVariants.{Forward}
use Rattle.guppy_core.specs.Listing.{Stands}
use Rattle.guppy_core.specs.Sccs.{InOneBlock}
use Rattle.guppy_core.proofs.Listings.{all_standing}
use Rattle.guppy_flat.specs.Flat.{flagged}
use Rattle.guppy_flat.proofs.Places.{all_written, with_previous-along}
use Rattle.guppy_flat.proofs.ordering.components.Goals as goal

pub mark_firsts-requires-clause-below : goal.mark_firsts-requires-clause-below
mark_firsts-requires-clause-below c =
    let blocks = c.in_ok-components.components in
    let listing = c.in_ok-components.ensures.components_are.listing in
    let listed = c.in_ok-positions.ensures in
    let count = listing.count in
    rw c.as_slice-2.ensures.value (all_standing _ (λ p. p < length (concat blocks)) c.in_ok-positions.positions.items (λ p s.
    let at = subst (λ (xs : List ℕ). slice_get xs s.0 ≡ Some p) listed s.1 in
    let below = listing.below s.0 p at in
    omega arith))

pub returns-clause-firsts : goal.returns-clause-firsts
returns-clause-firsts c =
    let links = flagged c.args.links.now c.args.flags.now in
    let blocks = c.in_ok-components.components in
    let sccs = rw c.in_ok-graph.ensures.links at c.in_ok-components.ensures.components_are in
    let listed = c.in_ok-positions.ensures in
    let count = sccs.listing.count in
    let nodes = c.in_ok-graph.ensures.nodes in
    let kept = c.write.auto.list in
    let mapped = length-map c.in_ok-positions.positions.items _ ∙ refl in
    let as_long = sym mapped ∙ ap length listed in
    let whole : c.write.new.list ≡ concat blocks = all_written _ c.write.new.list (concat blocks) (rw (c.as_slice.ensures.value, listed) at c.write.ensures) (omega arith) in
    let marked = rw (c.as_slice-2.ensures.value, listed) at c.mark_firsts.ensures in
    let below : (x : ℕ) → Stands (concat blocks) x → x < length c.in_ok-graph.graph.nodes = λ x s. sccs.listing.below s.0 x s.1 in
    rw whole (λ place within.
    let one = marked place (omega arith) in (
      λ h. with_previous-along (InOneBlock blocks) (Mutual (LinkStep Forward links)) (concat blocks) place (λ x y s t. (sccs.classes x y (below x s) (below y t)).0) (one.0 h),
      λ w. one.1 (with_previous-along (Mutual (LinkStep Forward links)) (InOneBlock blocks) (concat blocks) place (λ x y s t. (sccs.classes x y (below x s) (below y t)).1) w),
    ))
