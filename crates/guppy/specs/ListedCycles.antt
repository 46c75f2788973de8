-- The cycles of a graph as lists of IDs.
use Rattle.std.specs.Prelude.{List, ℕ, map}
use Rattle.std.specs.List.{filter}
use Rattle.std.specs.Slice.Iter.{iter_rest}
use Rattle.guppy.specs.declared.cycles.AllCycles.{AllCycles}
use Rattle.guppy.specs.declared.cycles.CycleIds.{CycleIds}
use Rattle.guppy_graph.specs.Ids.{ix_position}
use Rattle.guppy_graph.specs.Graph.{GraphData}
use Rattle.guppy.specs.Listed.{ids_at}
use Rattle.guppy_graph.specs.Cycles.{is_cyclic_component, cyclic_components}

-- the cyclic components, in the order of the graph
abbrev pub cycles_of : GraphData → List (List (List ℕ))
cycles_of g = map (ids_at g.packages) (cyclic_components g)

abbrev pub cycles_left : AllCycles → List (List (List ℕ))
cycles_left s =
    map (ids_at s.graph.now.packages) (filter (is_cyclic_component s.graph.now.links) s.rest)

abbrev pub cycle_left : CycleIds → List (List ℕ)
cycle_left s = ids_at s.graph.now.packages (map ix_position (iter_rest s.rest))
