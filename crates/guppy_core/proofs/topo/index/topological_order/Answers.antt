use Rattle.std.proofs.Common.{◌<◌, subst, ◌≡◌, ◌∙◌, length, refl, arith}
use Rattle.guppy_search.proofs.Exits.{if_ok, on_ok}
use Rattle.guppy_search.specs.Reach.{Step}
use Rattle.guppy_search.specs.declared.ix.direction.DependencyDirection.TheVariants.{Forward, Reverse}
use Rattle.guppy_core.specs.Listing.{Stands}
use Rattle.guppy_core.specs.Topo.{FromRoot}
use Rattle.guppy_core.proofs.Costs.{looked_same}
use Rattle.guppy_core.proofs.TopologicalOrder.{topo_from, finished_from_roots, reversed_below}
use Rattle.guppy_search.proofs.SearchSteps.{far_end_below}
use Rattle.guppy_core.proofs.AcyclicSteps.{entered_or_not, topo_leads_on}
use Rattle.guppy_core.proofs.topo.index.topological_order.Goals as goal

pub returns-clause-topo : goal.returns-clause-topo
returns-clause-topo g c =
    let graph = c.args.graph.now.graph in
    let R = Step {E = g.row.G-Edge.Denot} Forward g.kept graph.links in
    let count : c.node_count-count.result ≡ length graph.nodes = c.node_count-count.ensures.count in
    let finish = rw (c.in_ok-starts.ensures.graph, c.as_slice.ensures.value) at c.in_ok-order.ensures.order in
    let below = rw c.in_ok-starts.ensures.graph at c.in_ok-order.ensures.positions in
    let members = rw (c.as_slice-3.ensures.value, c.reverse.ensures.items) at c.in_ok-reached.ensures.members in
    rw (c.in_ok-extend_from_slice.ensures.items, c.reverse.ensures.items, c.as_slice-4.ensures.value)
    (topo_from R (length graph.nodes) c.in_ok-starts.starts.items c.in_ok-order.order.items c.in_ok-rest.rest.items c.in_ok-reached.reached c.in_ok-starts.ensures.roots finish below (c.in_ok-reached.ensures.count ∙ count) members c.in_ok-rest.ensures)

pub returns-clause-acyclic : goal.returns-clause-acyclic
returns-clause-acyclic g c =
    let graph = c.args.graph.now.graph in
    let R = Step {E = g.row.G-Edge.Denot} Forward g.kept graph.links in
    let ends = c.node_count-count.ensures.graph.ends in
    λ none. topo_leads_on R (length graph.nodes) (entered_or_not g.kept graph.links)
    (λ a x t. subst (λ z. z < length graph.nodes) t.near (far_end_below Reverse graph.links (length graph.nodes) t.number t.link t.found ends))
    none _ (returns-clause-topo g c)

pub returns-clause-looked : goal.returns-clause-looked
returns-clause-looked g c =
    let graph = c.args.graph.now.graph in
    let R = Step {E = g.row.G-Edge.Denot} Forward g.kept graph.links in
    let finish = rw (c.in_ok-starts.ensures.graph, c.as_slice.ensures.value) at c.in_ok-order.ensures.order in
    let looked = rw (c.in_ok-starts.ensures.graph, c.in_ok-starts.ensures.once) at c.in_ok-order.ensures.looked in
    looked_same Forward graph.links (length graph.nodes) (Stands c.in_ok-order.order.items) (FromRoot R (length graph.nodes)) _ _ (finished_from_roots R (length graph.nodes) c.in_ok-starts.starts.items c.in_ok-order.order.items c.in_ok-starts.ensures.roots finish) looked

pub returns-clause-looks : goal.returns-clause-looks
returns-clause-looks g c =
    let first = c.in_ok-starts.ensures.once in
    let more = rw c.in_ok-starts.ensures.graph at c.in_ok-order.ensures.looks in
    omega arith

pub returns-clause-counted : goal.returns-clause-counted
returns-clause-counted g c =
    let first = c.in_ok-starts.ensures.counted in
    let more = c.in_ok-order.ensures.counted in
    omega arith

pub returns-clause-least : goal.returns-clause-least
returns-clause-least g c =
    let first = c.in_ok-starts.ensures.once in
    let more = c.in_ok-order.ensures.counted in
    omega arith

pub returns-clause-graph : goal.returns-clause-graph
returns-clause-graph g c = c.in_ok-order.ensures.graph ∙ c.in_ok-starts.ensures.graph

pub returns-in_err-notes : goal.returns-in_err-notes
returns-in_err-notes g c = let none = c.from_residual.ensures.0 in record { topo = if_ok _ _ none; acyclic = if_ok _ _ none; looks = omega arith; counted = omega arith; least = on_ok _ _ none; looked = if_ok _ _ none; graph = refl }

pub returns-in_err-starts : goal.returns-in_err-starts
returns-in_err-starts g c =
    let none = c.from_residual-in_err-starts.ensures.0 in
    let looked = c.in_err-starts.ensures.looks in
    record { topo = if_ok _ _ none; acyclic = if_ok _ _ none; looks = omega arith; counted = c.in_err-starts.ensures.counted; least = on_ok _ _ none; looked = if_ok _ _ none; graph = c.in_err-starts.ensures.graph }

pub returns-in_err-order : goal.returns-in_err-order
returns-in_err-order g c =
    let none = c.from_residual-in_err-order.ensures.0 in
    let first = c.in_ok-starts.ensures.looks in
    let begun = c.in_ok-starts.ensures.counted in
    let looked = rw c.in_ok-starts.ensures.graph at c.in_err-order.ensures.looks in
    let counted = c.in_err-order.ensures.counted in
    record { topo = if_ok _ _ none; acyclic = if_ok _ _ none; looks = omega arith; counted = omega arith; least = on_ok _ _ none; looked = if_ok _ _ none; graph = c.in_err-order.ensures.graph ∙ c.in_ok-starts.ensures.graph }

pub returns-in_err-reached : goal.returns-in_err-reached
returns-in_err-reached g c =
    let none = c.from_residual-in_err-reached.ensures.0 in
    let first = c.in_ok-starts.ensures.looks in
    let begun = c.in_ok-starts.ensures.counted in
    let looked = rw c.in_ok-starts.ensures.graph at c.in_ok-order.ensures.looks in
    let counted = c.in_ok-order.ensures.counted in
    record { topo = if_ok _ _ none; acyclic = if_ok _ _ none; looks = omega arith; counted = omega arith; least = on_ok _ _ none; looked = if_ok _ _ none; graph = c.in_ok-order.ensures.graph ∙ c.in_ok-starts.ensures.graph }

pub returns-in_err-rest : goal.returns-in_err-rest
returns-in_err-rest g c =
    let none = c.from_residual-in_err-rest.ensures.0 in
    let first = c.in_ok-starts.ensures.looks in
    let begun = c.in_ok-starts.ensures.counted in
    let looked = rw c.in_ok-starts.ensures.graph at c.in_ok-order.ensures.looks in
    let counted = c.in_ok-order.ensures.counted in
    record { topo = if_ok _ _ none; acyclic = if_ok _ _ none; looks = omega arith; counted = omega arith; least = on_ok _ _ none; looked = if_ok _ _ none; graph = c.in_ok-order.ensures.graph ∙ c.in_ok-starts.ensures.graph }

pub returns-in_err-extend_from_slice : goal.returns-in_err-extend_from_slice
returns-in_err-extend_from_slice g c =
    let none = c.from_residual-in_err-extend_from_slice.ensures.0 in
    let first = c.in_ok-starts.ensures.looks in
    let begun = c.in_ok-starts.ensures.counted in
    let looked = rw c.in_ok-starts.ensures.graph at c.in_ok-order.ensures.looks in
    let counted = c.in_ok-order.ensures.counted in
    record { topo = if_ok _ _ none; acyclic = if_ok _ _ none; looks = omega arith; counted = omega arith; least = on_ok _ _ none; looked = if_ok _ _ none; graph = c.in_ok-order.ensures.graph ∙ c.in_ok-starts.ensures.graph }

pub set_of-requires-clause-below : goal.set_of-requires-clause-below
set_of-requires-clause-below g c =
    let n = length c.args.graph.now.graph.nodes in
    let below = rw c.in_ok-starts.ensures.graph at c.in_ok-order.ensures.positions in
    rw (c.as_slice-3.ensures.value, c.reverse.ensures.items, c.node_count-count.ensures.count) (reversed_below n c.in_ok-order.order.items below)

pub set_of-requires-clause-small : goal.set_of-requires-clause-small
set_of-requires-clause-small g c =
    let count = c.node_count-count.ensures.count in
    let few = c.node_count-count.ensures.graph.few_nodes in
    omega arith
