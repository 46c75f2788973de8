use Rattle.std.proofs.Common.{length}
use Rattle.guppy_search.proofs.Exits.{if_ok, on_ok}
use Rattle.guppy_core.proofs.TopologicalOrder.{order_below}
use Rattle.guppy_core.proofs.topo.index.TopoWithCycles.new.Goals as goal

pub places-requires-clause-below : goal.places-requires-clause-below
places-requires-clause-below g c = rw c.as_slice.ensures.value (order_below (length c.args.graph.now.graph.nodes) c.in_ok-order.order.items c.in_ok-order.ensures.topo.listing)

pub places-requires-clause-once : goal.places-requires-clause-once
places-requires-clause-once g c = rw c.as_slice.ensures.value c.in_ok-order.ensures.topo.listing.once

pub returns-clause-topo : goal.returns-clause-topo
returns-clause-topo g c = c.in_ok-order.ensures.topo

pub returns-clause-acyclic : goal.returns-clause-acyclic
returns-clause-acyclic g c = c.in_ok-order.ensures.acyclic

pub returns-clause-looks : goal.returns-clause-looks
returns-clause-looks g c = c.in_ok-order.ensures.looks

pub returns-clause-counted : goal.returns-clause-counted
returns-clause-counted g c = c.in_ok-order.ensures.counted

pub returns-clause-least : goal.returns-clause-least
returns-clause-least g c = c.in_ok-order.ensures.least

pub returns-clause-looked : goal.returns-clause-looked
returns-clause-looked g c = c.in_ok-order.ensures.looked

pub returns-clause-graph : goal.returns-clause-graph
returns-clause-graph g c = c.in_ok-order.ensures.graph

pub returns-in_err-order : goal.returns-in_err-order
returns-in_err-order g c = let none = c.from_residual.ensures.0 in record { topo = if_ok _ _ none; acyclic = if_ok _ _ none; looks = c.in_err-order.ensures.looks; counted = c.in_err-order.ensures.counted; least = on_ok _ _ none; looked = if_ok _ _ none; graph = c.in_err-order.ensures.graph }

pub returns-in_err-index : goal.returns-in_err-index
returns-in_err-index g c = let none = c.from_residual-in_err-index.ensures.0 in record { topo = if_ok _ _ none; acyclic = if_ok _ _ none; looks = c.in_ok-order.ensures.looks; counted = c.in_ok-order.ensures.counted; least = on_ok _ _ none; looked = if_ok _ _ none; graph = c.in_ok-order.ensures.graph }
