use Rattle.std.proofs.Common.{arith, ◌≡◌, ◌+◌, ◌<◌, true, length, [], refl, Some}
use Rattle.std.specs.Prelude.{slice_get}
use Rattle.guppy_search.proofs.Exits.{on_ok}
use Rattle.guppy_search.proofs.Lists.{no_items}
use Rattle.guppy_search.specs.Reach.{Step}
use Rattle.guppy_search.specs.declared.ix.direction.DependencyDirection.TheVariants.{Reverse}
use Rattle.guppy_core.proofs.Costs.{degree, owed, owed-mark, owed-pop, row_paid, row_room, fits_below, one_more}
use Rattle.guppy_core.proofs.RowTurns.{popped_below, within_first, within_more, between_again}
use Rattle.guppy_search.specs.Links.{far_end}
use Rattle.guppy_search.proofs.SearchSteps.{far_end_below}
use Rattle.guppy_core.proofs.Claims.{From, numbering_first, numbering_more, between_first, claimed}
use Rattle.guppy_core.proofs.scc.claim.claim.Given.{Over}
use Rattle.guppy_core.proofs.scc.claim.claim.Goals.{After-leaving_at-k-end, After-look_at-number}
use Rattle.guppy_core.proofs.scc.claim.claim.Goals as goal

-- the loop goes over all links that leave the position, which are paid for
module _ (g : Over) (c : After-leaving_at-k-end g) where
  row : c.leaving_at-k-end.result ≡ degree {E = g.row.G-Edge.Denot} Reverse c.args.graph.now.graph.links c.in-Some.position
  row = rw (← c.loop-position.invariant.graph) c.leaving_at-k-end.ensures.count

  owes : owed (degree {E = g.row.G-Edge.Denot} Reverse c.args.graph.now.graph.links) c.loop-position.seen c.loop-position.stack.items ≡ owed (degree {E = g.row.G-Edge.Denot} Reverse c.args.graph.now.graph.links) c.loop-position.seen c.pop.new.self.items + degree {E = g.row.G-Edge.Denot} Reverse c.args.graph.now.graph.links c.in-Some.position
  owes = owed-pop (degree {E = g.row.G-Edge.Denot} Reverse c.args.graph.now.graph.links) c.loop-position.seen _ _ c.in-Some.position c.in-Some.ensures.items

-- the far end of the link that was looked at is a position
module _ (g : Over) (c : After-look_at-number g) where
  found : slice_get c.args.graph.now.graph.links c.look_at-number.result.0 ≡ Some c.look_at-number.ensures.link.0
  found = rw c.loop-k.invariant.graph at c.look_at-number.ensures.link.1

  end_below : far_end Reverse c.look_at-number.ensures.link.0 < length c.args.graph.now.graph.nodes
  end_below =
      let is_graph = rw c.loop-position.invariant.graph at c.leaving_at-k-end.ensures.graph in
      far_end_below Reverse c.args.graph.now.graph.links (length c.args.graph.now.graph.nodes) _ c.look_at-number.ensures.link.0 found is_graph.ends

  far_below : c.look_at-number.result.1 < length c.args.graph.now.graph.nodes
  far_below = rw (← c.look_at-number.ensures.link.3) end_below

pub loop-position-init : goal.loop-position-init
loop-position-init g c =
    let graph = c.args.graph.now.graph in
    let R = Step {E = g.row.G-Edge.Denot} Reverse (λ _. true) graph.links in
    let marks = rw c.requires.empty at c.in_ok-claim_one.ensures.marks in
    let limit = c.requires.limit in
    let below : c.args.start < length c.args.seen.now = let s = c.requires.start in omega arith in
    let kept = owed-mark (degree {E = g.row.G-Edge.Denot} Reverse graph.links) c.args.start c.args.seen.now [] c.claim_one.new.seen c.claim_one.new.stack.items below marks in
    record {
      between = between_first R (length graph.nodes) c.args.seen.now c.args.start limit c.requires.closed c.requires.start c.claim_one.new.seen c.claim_one.new.stack.items marks;
      numbering = numbering_more (length graph.nodes) c.args.number c.args.seen.now c.args.numbers.now.items c.args.seen.now c.args.numbers.now.items (numbering_first (length graph.nodes) c.args.number c.args.seen.now c.args.numbers.now.items limit c.requires.count) c.args.start c.requires.start _ _ _ _ marks c.in_ok-claim_one.ensures.numbers;
      graph = refl;
      paid = omega arith;
      counted = omega arith;
    }

pub leaving_at-k-end-requires : goal.leaving_at-k-end-requires
leaving_at-k-end-requires g c = rw c.loop-position.invariant.graph (popped_below _ _ _ _ _ _ _ c.loop-position.invariant.between c.in-Some.ensures.items)

pub loop-k-init : goal.loop-k-init
loop-k-init g c = record {
  inside = within_first Reverse c.args.graph.now.graph (From c.args.seen.now c.args.start) c.in-Some.position _ _ _ _ c.loop-position.invariant.between c.in-Some.ensures.items refl;
  numbering = c.loop-position.invariant.numbering;
  graph = c.loop-position.invariant.graph;
  looked = omega arith;
  paid = omega arith;
}

pub loop-position-preserved : goal.loop-position-preserved
loop-position-preserved g c =
    let at = (goal.at.loop-position-preserved g c).After-leaving_at-k-end in
    let len = row g at in
    record {
      between = between_again Reverse c.args.graph.now.graph (From c.args.seen.now c.args.start) c.in-Some.position _ _ _ _ _ c.loop-k.invariant.inside (rw (← len) c.loop-k-test.false);
      numbering = c.loop-k.invariant.numbering;
      graph = c.loop-k.invariant.graph;
      paid = row_paid _ _ _ _ _ _ _ _ (owes g at) c.loop-position.invariant.paid c.loop-k.invariant.paid c.loop-k.invariant.looked (rw (← len) c.loop-k.auto.k-end) (rw (← len) c.loop-k-test.false);
      counted = let old = c.loop-position.invariant.counted in let k = c.loop-k.invariant.looked in omega arith;
    }

pub look_at-number-requires-clause-room : goal.look_at-number-requires-clause-room
look_at-number-requires-clause-room g c =
    let at = (goal.at.look_at-number-requires-clause-room g c).After-leaving_at-k-end in
    let len = row g at in
    let one = row_room _ _ _ _ _ _ _ _ (owes g at) c.loop-position.invariant.paid c.loop-k.invariant.paid c.loop-k.invariant.looked (rw (← len) c.loop-k-test.true) in
    let room = c.requires.room in
    fits_below _ _ one room

pub claim_one-requires-in-loop-k-clause-seen : goal.claim_one-requires-in-loop-k-clause-seen
claim_one-requires-in-loop-k-clause-seen g c = rw c.loop-k.invariant.inside.searching.limit_is (far_below g (goal.at.claim_one-requires-in-loop-k-clause-seen g c).After-look_at-number)

pub claim_one-requires-in-loop-k-clause-numbers : goal.claim_one-requires-in-loop-k-clause-numbers
claim_one-requires-in-loop-k-clause-numbers g c = rw c.loop-k.invariant.numbering.count (far_below g (goal.at.claim_one-requires-in-loop-k-clause-numbers g c).After-look_at-number)

pub claim_one-requires-in-loop-k-clause-small : goal.claim_one-requires-in-loop-k-clause-small
claim_one-requires-in-loop-k-clause-small g c =
    let below = far_below g (goal.at.claim_one-requires-in-loop-k-clause-small g c).After-look_at-number in
    let few = c.requires.small in
    omega arith

pub loop-k-preserved : goal.loop-k-preserved
loop-k-preserved g c =
    let graph = c.args.graph.now.graph in
    let l = c.look_at-number.ensures.link in
    let look = (goal.at.loop-k-preserved g c).After-look_at-number in
    let below = end_below g look in
    let at = (goal.at.loop-k-preserved g c).After-leaving_at-k-end in
    let len = row g at in
    let number = rw c.loop-k.invariant.graph at c.look_at-number.ensures.number in
    let marks = rw (← l.3) at c.in_ok-claim_one-2.ensures.marks in
    let same = c.loop-k.invariant.inside.searching.limit_is in
    let below' : c.look_at-number.result.1 < length c.loop-k.seen = rw same (far_below g look) in
    let kept = owed-mark (degree {E = g.row.G-Edge.Denot} Reverse graph.links) c.look_at-number.result.1 c.loop-k.seen c.loop-k.stack.items c.claim_one-in-loop-k.new.seen c.claim_one-in-loop-k.new.stack.items below' c.in_ok-claim_one-2.ensures.marks in
    record {
      inside = within_more Reverse graph (From c.args.seen.now c.args.start) c.in-Some.position _ c.loop-k.k _ c.loop-k.seen c.loop-k.stack.items c.loop-k.invariant.inside (rw (← len) c.loop-k-test.true) l.0 (rw number at (found g look)) below c.claim_one-in-loop-k.new.seen c.claim_one-in-loop-k.new.stack.items marks;
      numbering = numbering_more (length graph.nodes) c.args.number c.args.seen.now c.args.numbers.now.items c.loop-k.seen c.loop-k.numbers.items c.loop-k.invariant.numbering c.look_at-number.result.1 (far_below g look) _ _ _ _ c.in_ok-claim_one-2.ensures.marks c.in_ok-claim_one-2.ensures.numbers;
      graph = rw c.look_at-number.ensures.counted c.loop-k.invariant.graph;
      looked = rw (c.look_at-number.ensures.counted, c.loop-k.invariant.looked) (one_more _ _);
      paid = rw kept c.loop-k.invariant.paid;
    }

pub returns-clause-seen : goal.returns-clause-seen
returns-clause-seen g c =
    let graph = c.args.graph.now.graph in
    let R = Step {E = g.row.G-Edge.Denot} Reverse (λ _. true) graph.links in
    let none = c.in_default.ensures.cases.0 in
    let empty : length c.loop-position.stack.items ≡ 0 = let ok = c.loop-position.stack.ok in omega arith in
    claimed R (length graph.nodes) c.args.seen.now c.args.start c.requires.limit c.requires.closed c.loop-position.seen c.loop-position.stack.items empty c.loop-position.invariant.between

pub claim_one-requires-clause-seen : goal.claim_one-requires-clause-seen
claim_one-requires-clause-seen g c = rw c.requires.limit c.requires.start

pub claim_one-requires-clause-numbers : goal.claim_one-requires-clause-numbers
claim_one-requires-clause-numbers g c = rw c.requires.count c.requires.start

pub claim_one-requires-clause-small : goal.claim_one-requires-clause-small
claim_one-requires-clause-small g c =
    let below = c.requires.start in
    let few = c.requires.small in
    omega arith

pub look_at-number-requires-clause-position : goal.look_at-number-requires-clause-position
look_at-number-requires-clause-position g c = rw c.loop-k.invariant.graph (popped_below _ _ _ _ _ _ _ c.loop-position.invariant.between c.in-Some.ensures.items)

pub look_at-number-requires-clause-place : goal.look_at-number-requires-clause-place
look_at-number-requires-clause-place g c =
    let at = (goal.at.look_at-number-requires-clause-place g c).After-leaving_at-k-end in
    let len = row g at in
    rw (c.loop-k.invariant.graph, ← len) c.loop-k-test.true

pub returns-clause-empty : goal.returns-clause-empty
returns-clause-empty g c =
    let none = c.in_default.ensures.cases.1 in
    no_items c.pop.new.self.items (let ok = c.pop.new.self.ok in omega arith)

pub returns-clause-limit : goal.returns-clause-limit
returns-clause-limit g c = c.loop-position.invariant.numbering.limit

pub returns-clause-count : goal.returns-clause-count
returns-clause-count g c = c.loop-position.invariant.numbering.count

pub returns-clause-numbers : goal.returns-clause-numbers
returns-clause-numbers g c = c.loop-position.invariant.numbering.claims

pub returns-clause-paid : goal.returns-clause-paid
returns-clause-paid g c =
    let empty : length c.loop-position.stack.items ≡ 0 = let none = c.in_default.ensures.cases.0 in let ok = c.loop-position.stack.ok in omega arith in
    let paid = rw (no_items _ empty) at c.loop-position.invariant.paid in
    omega arith

pub returns-clause-counted : goal.returns-clause-counted
returns-clause-counted g c = c.loop-position.invariant.counted

pub returns-clause-looks : goal.returns-clause-looks
returns-clause-looks g c =
    let paid = c.loop-position.invariant.paid in
    omega arith

pub returns-clause-graph : goal.returns-clause-graph
returns-clause-graph g c = c.loop-position.invariant.graph

pub returns-in_err-claim_one-2 : goal.returns-in_err-claim_one-2
returns-in_err-claim_one-2 g c =
    let none = c.from_residual-in_err-claim_one-2.ensures.0 in
    let at = (goal.at.returns-in_err-claim_one-2 g c).After-leaving_at-k-end in
    let len = row g at in
    record {
      empty = on_ok _ _ none;
      limit = on_ok _ _ none;
      count = on_ok _ _ none;
      seen = on_ok _ _ none;
      numbers = on_ok _ _ none;
      paid = on_ok _ _ none;
      looks = rw c.look_at-number.ensures.counted (row_room _ _ _ _ _ _ _ _ (owes g at) c.loop-position.invariant.paid c.loop-k.invariant.paid c.loop-k.invariant.looked (rw (← len) c.loop-k-test.true));
      counted = let old = c.loop-position.invariant.counted in let k = c.loop-k.invariant.looked in rw c.look_at-number.ensures.counted (omega arith);
      graph = rw c.look_at-number.ensures.counted c.loop-k.invariant.graph;
    }

pub returns-in_err-claim_one : goal.returns-in_err-claim_one
returns-in_err-claim_one g c =
    let none = c.from_residual.ensures.0 in
    record { empty = on_ok _ _ none; limit = on_ok _ _ none; count = on_ok _ _ none; seen = on_ok _ _ none; numbers = on_ok _ _ none; paid = on_ok _ _ none; looks = omega arith; counted = omega arith; graph = refl }
