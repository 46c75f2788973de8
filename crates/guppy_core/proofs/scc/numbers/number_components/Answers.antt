use Rattle.std.proofs.Common.{arith, ◌≡◌, ◌<◌, ℕ, true, false, length, get_or, replicate, reverse, sym, ap, ◌∙◌}
use Rattle.std.proofs.Math.ListN.{length-replicate}
use Rattle.std.proofs.lemmas.List.{length-reverse}
use Rattle.std.proofs.lemmas.Option.{slice_get-get_or, slice_get_within, get_or_from_slice_get}
use Rattle.guppy_search.proofs.Exits.{if_ok, on_ok}
use Rattle.guppy_search.specs.Reach.{Step}
use Rattle.guppy_search.specs.declared.ix.direction.DependencyDirection.TheVariants.{Forward, Reverse}
use Rattle.guppy_search.proofs.Walks.{step_back, step_forth}
use Rattle.guppy_core.proofs.Costs.{degree, owed_first, none_missing, looked_all, fits_same}
use Rattle.guppy_search.proofs.Members.{has-replicate}
use Rattle.guppy_core.proofs.TopologicalOrder.{reversed_below}
use Rattle.guppy_core.proofs.Lengths.{length_of_once}
use Rattle.guppy_core.proofs.ComponentNumbers.{second_none, second_skipped, second_more, second_seen, second_all, all_finished}
use Rattle.guppy_core.specs.Listing.{Stands}
use Rattle.guppy_core.proofs.scc.numbers.number_components.Given.{Over}
use Rattle.guppy_core.proofs.scc.numbers.number_components.Goals.{After-deref-root-items, then-not-has_position+in_ok-claim, else-not-has_position}
use Rattle.guppy_core.proofs.scc.numbers.number_components.Goals as goal

-- the roots are taken in the reversed order of the first pass, which has all positions
module _ (g : Over) (c : After-deref-root-items g) where
  roots : c.deref-root-items.result.now ≡ reverse c.in_ok-order.order.items
  roots = c.deref-root-items.ensures.value ∙ c.reverse.ensures.items

  root_below : (i : ℕ) → i < length c.deref-root-items.result.now → get_or c.deref-root-items.result.now i 0 < length c.args.graph.now.graph.nodes
  root_below i more = rw roots (reversed_below (length c.args.graph.now.graph.nodes) c.in_ok-order.order.items c.in_ok-order.ensures.positions i 0 (rw (← roots) more))

  finished : (p : ℕ) → p < length c.args.graph.now.graph.nodes → Stands c.in_ok-order.order.items p
  finished = all_finished _ (length c.args.graph.now.graph.nodes) c.args.starts.now c.in_ok-order.order.items c.in_ok-order.ensures.order c.requires.all

pub loop-root-init : goal.loop-root-init
loop-root-init g c =
    let graph = c.args.graph.now.graph in
    let count : c.node_count-limit.result ≡ length graph.nodes = c.node_count-limit.ensures.count in
    let zeros = c.in_ok-numbers.ensures.items_if_clones_equal (λ y h. h) in
    let first = owed_first {E = g.row.G-Edge.Denot} Reverse graph.links c.node_count-limit.result (rw count c.node_count-limit.ensures.graph.ends) in
    let all = all_finished _ (length graph.nodes) c.args.starts.now c.in_ok-order.order.items c.in_ok-order.ensures.order c.requires.all in
    let looked = looked_all {E = g.row.G-Edge.Denot} Forward graph.links (length graph.nodes) _ _ _ all c.in_ok-order.ensures.looked in
    rw (c.in_ok-seen.ensures, zeros) (record {
      numbering = second_none _ _ (step_back {E = g.row.G-Edge.Denot} (λ _. true) graph.links) (step_forth {E = g.row.G-Edge.Denot} (λ _. true) graph.links) (length graph.nodes) c.deref-root-items.result.now (replicate c.node_count-limit.result false) (replicate c.node_count-limit.result 0) (length-replicate c.node_count-limit.result false ∙ count) (length-replicate c.node_count-limit.result 0 ∙ count) (has-replicate c.node_count-limit.result);
      empty = c.new-stack.ensures.items;
      graph = c.in_ok-order.ensures.graph;
      paid = omega arith;
      counted = c.in_ok-order.ensures.counted;
    })

pub has_position-requires : goal.has_position-requires
has_position-requires g c =
    rw c.loop-root.invariant.numbering.limit_is (root_below g (goal.at.has_position-requires g c).After-deref-root-items c.loop-root.root-index c.loop-root-test.true)

pub claim-requires-clause-limit : goal.claim-requires-clause-limit
claim-requires-clause-limit g c = rw c.loop-root.invariant.graph c.loop-root.invariant.numbering.limit_is

pub claim-requires-clause-count : goal.claim-requires-clause-count
claim-requires-clause-count g c = rw c.loop-root.invariant.graph c.loop-root.invariant.numbering.length_is

pub claim-requires-clause-start : goal.claim-requires-clause-start
claim-requires-clause-start g c =
    rw c.loop-root.invariant.graph (root_below g (goal.at.claim-requires-clause-start g c).After-deref-root-items c.loop-root.root-index c.loop-root-test.true)

pub claim-requires-clause-closed : goal.claim-requires-clause-closed
claim-requires-clause-closed g c = rw c.loop-root.invariant.graph c.loop-root.invariant.numbering.closed

pub claim-requires-clause-room : goal.claim-requires-clause-room
claim-requires-clause-room g c = rw c.loop-root.invariant.graph (fits_same _ _ c.loop-root.invariant.paid c.requires.room)

pub overflow_add-count : goal.overflow_add-count
overflow_add-count g c =
    let few = c.loop-root.invariant.numbering.few in
    let test = c.loop-root-test.true in
    let len = c.deref-root-items.ensures.len in
    omega arith

pub loop-root-preserved : goal.loop-root-preserved
loop-root-preserved g c =
    let graph = c.args.graph.now.graph in
    let n = length graph.nodes in
    let F = c.in_ok-order.order.items in
    let R = Step {E = g.row.G-Edge.Denot} Forward (λ _. true) graph.links in
    let B = Step {E = g.row.G-Edge.Denot} Reverse (λ _. true) graph.links in
    let back = step_back {E = g.row.G-Edge.Denot} (λ _. true) graph.links in
    let forth = step_forth {E = g.row.G-Edge.Denot} (λ _. true) graph.links in
    let before = (goal.at.loop-root-preserved g c).After-deref-root-items in
    let all = finished g before in
    let dq : c.deref-root-items.result.now ≡ reverse F = roots g before in
    let s = rw dq at c.loop-root.invariant.numbering in
    let test : c.loop-root.root-index < length (reverse F) = rw (← dq) c.loop-root-test.true in
    let at = slice_get-get_or (reverse F) c.loop-root.root-index 0 test in
    elim c.if-not-has_position.branch [
      | then-not-has_position+in_ok-claim w ↦
          let lacks = rw dq at (sym c.has_position.ensures.value ∙ w.if-not-has_position.true) in
          let limit = rw c.loop-root.invariant.graph at w.in_ok-claim.ensures.limit in
          let count = rw c.loop-root.invariant.graph at w.in_ok-claim.ensures.count in
          let adds = rw (c.loop-root.invariant.graph, dq) at w.in_ok-claim.ensures.seen in
          let cost = rw c.loop-root.invariant.graph at w.in_ok-claim.ensures.paid in
          let paid = c.loop-root.invariant.paid in
          let counted = c.loop-root.invariant.counted in
          let more = w.in_ok-claim.ensures.counted in
          rw (w.seen-is, w.numbers-is, w.stack-is, w.count-is, w.graph-is, dq) (record {
            numbering = second_more R B back forth n _ F c.in_ok-order.ensures.order all c.loop-root.root-index c.loop-root.seen c.loop-root.numbers.items c.loop-root.count s (get_or (reverse F) c.loop-root.root-index 0) at lacks w.claim.new.seen w.claim.new.numbers.items limit count adds w.in_ok-claim.ensures.numbers;
            empty = w.in_ok-claim.ensures.empty;
            graph = w.in_ok-claim.ensures.graph ∙ c.loop-root.invariant.graph;
            paid = omega arith;
            counted = omega arith;
          })
      | else-not-has_position w ↦
          let here = rw dq at (sym c.has_position.ensures.value ∙ w.if-not-has_position.false) in
          rw (w.seen-is, w.numbers-is, w.stack-is, w.count-is, w.graph-is, dq) (record {
            numbering = second_skipped R B back forth n _ F c.in_ok-order.ensures.order all c.loop-root.root-index c.loop-root.seen c.loop-root.numbers.items c.loop-root.count s (get_or (reverse F) c.loop-root.root-index 0) at here;
            empty = c.loop-root.invariant.empty;
            graph = c.loop-root.invariant.graph;
            paid = c.loop-root.invariant.paid;
            counted = c.loop-root.invariant.counted;
          })
    ]

pub returns-clause-numbers : goal.returns-clause-numbers
returns-clause-numbers g c =
    let graph = c.args.graph.now.graph in
    let F = c.in_ok-order.order.items in
    let before = (goal.at.returns-clause-numbers g c).After-deref-root-items in
    let dq : c.deref-root-items.result.now ≡ reverse F = roots g before in
    second_all _ _ (step_back {E = g.row.G-Edge.Denot} (λ _. true) graph.links) (step_forth {E = g.row.G-Edge.Denot} (λ _. true) graph.links) (length graph.nodes) _ F c.in_ok-order.ensures.order (finished g before) c.loop-root.root-index c.loop-root.seen c.loop-root.numbers.items c.loop-root.count (rw dq at c.loop-root.invariant.numbering) (rw dq at c.loop-root-test.false)

pub returns-clause-few : goal.returns-clause-few
returns-clause-few g c =
    let F = c.in_ok-order.order.items in
    let before = (goal.at.returns-clause-few g c).After-deref-root-items in
    let taken = c.loop-root.invariant.numbering.few in
    let all = ap length (roots g before) ∙ length-reverse F in
    let few = length_of_once (length c.args.graph.now.graph.nodes) F c.in_ok-order.ensures.order.once (λ i x at. rw (get_or_from_slice_get F i x 0 at) at (c.in_ok-order.ensures.positions i 0 (slice_get_within F i x at))) in
    let end = c.loop-root.auto.root-index-end in
    omega arith

pub returns-clause-looks : goal.returns-clause-looks
returns-clause-looks g c = let paid = c.loop-root.invariant.paid in omega arith

pub returns-clause-counted : goal.returns-clause-counted
returns-clause-counted g c = c.loop-root.invariant.counted

pub returns-clause-twice : goal.returns-clause-twice
returns-clause-twice g c =
    let graph = c.args.graph.now.graph in
    let n = length graph.nodes in
    let F = c.in_ok-order.order.items in
    let before = (goal.at.returns-clause-twice g c).After-deref-root-items in
    let dq : c.deref-root-items.result.now ≡ reverse F = roots g before in
    let numbering = rw dq at c.loop-root.invariant.numbering in
    let seen = second_seen _ _ (step_back {E = g.row.G-Edge.Denot} (λ _. true) graph.links) (step_forth {E = g.row.G-Edge.Denot} (λ _. true) graph.links) n _ F c.in_ok-order.ensures.order (finished g before) c.loop-root.root-index c.loop-root.seen c.loop-root.numbers.items c.loop-root.count numbering (rw dq at c.loop-root-test.false) in
    let none = none_missing (degree {E = g.row.G-Edge.Denot} Reverse graph.links) 0 c.loop-root.seen (λ p h. seen p (let e = numbering.limit_is in omega arith)) in
    let paid = c.loop-root.invariant.paid in
    omega arith

pub returns-in_err-order : goal.returns-in_err-order
returns-in_err-order g c =
    let none = c.from_residual.ensures.0 in
    let looked = c.in_err-order.ensures.looks in
    record { numbers = if_ok _ _ none; few = if_ok _ _ none; small = if_ok _ _ none; looks = omega arith; counted = c.in_err-order.ensures.counted; twice = on_ok _ _ none; graph = c.in_err-order.ensures.graph }

pub returns-in_err-numbers : goal.returns-in_err-numbers
returns-in_err-numbers g c =
    let none = c.from_residual-in_err-numbers.ensures.0 in
    let looked = c.in_ok-order.ensures.looks in
    record { numbers = if_ok _ _ none; few = if_ok _ _ none; small = if_ok _ _ none; looks = omega arith; counted = c.in_ok-order.ensures.counted; twice = on_ok _ _ none; graph = c.in_ok-order.ensures.graph }

pub returns-in_err-seen : goal.returns-in_err-seen
returns-in_err-seen g c =
    let none = c.from_residual-in_err-seen.ensures.0 in
    let looked = c.in_ok-order.ensures.looks in
    record { numbers = if_ok _ _ none; few = if_ok _ _ none; small = if_ok _ _ none; looks = omega arith; counted = c.in_ok-order.ensures.counted; twice = on_ok _ _ none; graph = c.in_ok-order.ensures.graph }

pub returns-in_err-claim : goal.returns-in_err-claim
returns-in_err-claim g c =
    let none = c.from_residual-in_err-claim.ensures.0 in
    let looked = rw c.loop-root.invariant.graph at c.in_err-claim.ensures.looks in
    let paid = c.loop-root.invariant.paid in
    let counted = c.loop-root.invariant.counted in
    let more = c.in_err-claim.ensures.counted in
    record { numbers = if_ok _ _ none; few = if_ok _ _ none; small = if_ok _ _ none; looks = omega arith; counted = omega arith; twice = on_ok _ _ none; graph = c.in_err-claim.ensures.graph ∙ c.loop-root.invariant.graph }
