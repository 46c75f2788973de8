use Rattle.std.proofs.Common.{length, get_or, subst, refl, arith}
use Rattle.std.specs.Prelude.{map}
use Rattle.std.proofs.lemmas.List.{get_or_default}
use Rattle.std.proofs.lemmas.Option.{slice_get-get_or}
use Rattle.guppy_search.proofs.Exits.{if_ok, on_ok}
use Rattle.guppy_search.specs.declared.ix.direction.DependencyDirection.TheVariants.{Forward}
use Rattle.guppy_search.specs.Reach.{LinkStep, Step}
use Rattle.guppy_core.specs.Listing.{IsListing}
use Rattle.guppy_core.specs.Sccs.{IsLaid, AreSccs, parts}
use Rattle.guppy_core.proofs.Groups.{sccs_from, numbered_from}
use Rattle.guppy_core.proofs.Blocks.{sccs_order}
use Rattle.guppy_core.proofs.AcyclicSteps.{sccs_lead_on}
use Rattle.guppy_core.proofs.scc.components.Sccs.new.Given.{Over}
use Rattle.guppy_core.proofs.scc.components.Sccs.new.Goals.{In_ok-positions}
use Rattle.guppy_core.proofs.scc.components.Sccs.new.Goals as goal

pub number_components-requires-clause-all : goal.number_components-requires-clause-all
number_components-requires-clause-all g c = rw c.order.ensures.order (λ p l. c.order.ensures.listing.all p (let e = c.requires.count in omega arith))

pub lay_out-requires-clause-order : goal.lay_out-requires-clause-order
lay_out-requires-clause-order g c =
    let t = c.order.ensures.listing in
    let len = c.in_ok-numbered.ensures.numbers.length_is in
    let count = c.requires.count in
    rw (c.order-2.ensures.order, c.as_slice.ensures.value) (λ k d h.
    let b = t.below k (get_or c.args.topo.now k d) (slice_get-get_or c.args.topo.now k d h) in
    omega arith)

-- the positions are laid out along the index, a listing of all positions, and the parts are the components
module _ (g : Over) (c : In_ok-positions g) where
  listing : IsListing (length c.args.graph.now.graph.nodes) c.args.topo.now
  listing = subst (λ n. IsListing n c.args.topo.now) c.requires.count c.order.ensures.listing

  laid : IsLaid c.args.topo.now c.in_ok-numbered.numbered.numbers.items c.in_ok-numbered.numbered.count (map g.Ix.IndexType.index_of c.in_ok-positions.field-0.positions.items) c.in_ok-positions.field-0.bounds.items
  laid = rw (c.order-2.ensures.order, c.as_slice.ensures.value) at c.in_ok-positions.ensures

  sccs : AreSccs (LinkStep {E = g.row.G-Edge.Denot} Forward c.args.graph.now.graph.links) (length c.args.graph.now.graph.nodes) c.args.topo.now (parts c.in_ok-positions.field-0.bounds.items (map g.Ix.IndexType.index_of c.in_ok-positions.field-0.positions.items))
  sccs = sccs_from (LinkStep {E = g.row.G-Edge.Denot} Forward c.args.graph.now.graph.links) (length c.args.graph.now.graph.nodes) c.args.topo.now c.in_ok-numbered.numbered.numbers.items c.in_ok-numbered.numbered.count _ listing c.in_ok-numbered.ensures.numbers laid.groups

pub invariant_of-result : goal.invariant_of-result
invariant_of-result g c =
    let R = LinkStep {E = g.row.G-Edge.Denot} Forward c.args.graph.now.graph.links in
    let at = (goal.at.invariant_of-result g c).In_ok-positions in
    let l = laid g at in
    let numbers = c.in_ok-numbered.ensures.numbers in
    let numbered = numbered_from R (length c.args.graph.now.graph.nodes) c.args.topo.now c.in_ok-numbered.numbered.numbers.items c.in_ok-numbered.numbered.count _ (listing g at) numbers l.groups in
    (l.joined, l.cut, numbered, rw (l.joined, ← numbers.length_is) at (sccs g at).listing)

pub returns-clause-sccs : goal.returns-clause-sccs
returns-clause-sccs g c = sccs g (goal.at.returns-clause-sccs g c).In_ok-positions

pub returns-clause-order : goal.returns-clause-order
returns-clause-order g c = sccs_order _ (length c.args.graph.now.graph.nodes) c.args.topo.now _ (sccs g (goal.at.returns-clause-order g c).In_ok-positions)

pub returns-clause-leads_on : goal.returns-clause-leads_on
returns-clause-leads_on g c =
    let links = c.args.graph.now.graph.links in
    let at = (goal.at.returns-clause-leads_on g c).In_ok-positions in
    λ keep leads. sccs_lead_on (LinkStep {E = g.row.G-Edge.Denot} Forward links) (Step {E = g.row.G-Edge.Denot} Forward keep links)
    (λ x y s. record { number = s.number; link = s.link; found = s.found; near = s.near; far = s.far; kept = refl })
    (length c.args.graph.now.graph.nodes) c.args.topo.now _ (listing g at) leads (sccs g at)

pub returns-in_err-numbered : goal.returns-in_err-numbered
returns-in_err-numbered g c = let none = c.from_residual.ensures.0 in record { sccs = if_ok _ _ none; order = if_ok _ _ none; leads_on = if_ok _ _ none; looks = c.in_err-numbered.ensures.looks; counted = c.in_err-numbered.ensures.counted; twice = on_ok _ _ none; graph = c.in_err-numbered.ensures.graph }

pub returns-in_err-positions : goal.returns-in_err-positions
returns-in_err-positions g c = let none = c.from_residual-in_err-positions.ensures.0 in record { sccs = if_ok _ _ none; order = if_ok _ _ none; leads_on = if_ok _ _ none; looks = c.in_ok-numbered.ensures.looks; counted = c.in_ok-numbered.ensures.counted; twice = on_ok _ _ none; graph = c.in_ok-numbered.ensures.graph }

pub number_components-requires-clause-below : goal.number_components-requires-clause-below
number_components-requires-clause-below g c =
    let t = c.order.ensures.listing in
    let count = c.requires.count in
    rw c.order.ensures.order (λ k d h.
    let b = t.below k (get_or c.args.topo.now k d) (slice_get-get_or c.args.topo.now k d h) in
    omega arith)

pub number_components-requires-clause-room : goal.number_components-requires-clause-room
number_components-requires-clause-room g c = c.requires.room

pub lay_out-requires-clause-numbers : goal.lay_out-requires-clause-numbers
lay_out-requires-clause-numbers g c =
    let numbers = c.in_ok-numbered.ensures.numbers in
    let len = numbers.length_is in
    rw c.as_slice.ensures.value (λ k d h.
    let low = numbers.below k (omega arith) in
    let same = get_or_default c.in_ok-numbered.numbered.numbers.items k d 0 h in
    omega arith)

pub lay_out-requires-clause-few : goal.lay_out-requires-clause-few
lay_out-requires-clause-few g c =
    let few = c.in_ok-numbered.ensures.few in
    let small = c.in_ok-numbered.ensures.small in
    omega arith

pub lay_out-requires-clause-small : goal.lay_out-requires-clause-small
lay_out-requires-clause-small g c =
    let len = c.in_ok-numbered.ensures.numbers.length_is in
    let small = c.in_ok-numbered.ensures.small in
    rw c.as_slice.ensures.value (omega arith)

pub returns-clause-looks : goal.returns-clause-looks
returns-clause-looks g c = c.in_ok-numbered.ensures.looks

pub returns-clause-counted : goal.returns-clause-counted
returns-clause-counted g c = c.in_ok-numbered.ensures.counted

pub returns-clause-twice : goal.returns-clause-twice
returns-clause-twice g c = c.in_ok-numbered.ensures.twice

pub returns-clause-graph : goal.returns-clause-graph
returns-clause-graph g c = c.in_ok-numbered.ensures.graph
