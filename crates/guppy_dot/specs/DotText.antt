-- The text of a drawing, as Graphviz reads it.
use Rattle.std.specs.Prelude.{ℕ, List, [], ◌++◌, codes, if◌then◌else◌}
use Rattle.std.specs.List.{flat_map}
use Rattle.guppy_dot.specs.Quoted.{quoted}
use Rattle.guppy_dot.specs.declared.drawing.LinkStyle.{LinkStyle}
use Rattle.guppy_dot.specs.declared.drawing.LinkStyle.TheVariants.{Solid, Dotted, Dashed}
use Rattle.guppy_dot.specs.Dot.{Node, Edge, Drawing}

-- a member is a box, and what is on a cycle is red
abbrev pub node_attributes : Node → List ℕ
node_attributes node = if node.is_member
    then (if node.is_cyclic then codes " [shape=box, color=red]" else codes " [shape=box]")
    else (if node.is_cyclic then codes " [color=red]" else [])

abbrev pub styled : LinkStyle → List ℕ
styled Solid = []
styled Dotted = codes " [style=dotted]"
styled Dashed = codes " [style=dashed]"

abbrev pub styled_red : LinkStyle → List ℕ
styled_red Solid = codes " [color=red]"
styled_red Dotted = codes " [style=dotted, color=red]"
styled_red Dashed = codes " [style=dashed, color=red]"

abbrev pub edge_attributes : Edge → List ℕ
edge_attributes edge = if edge.is_cyclic then styled_red edge.style else styled edge.style

-- a package, called so, on a line
abbrev pub node_line : List ℕ → Node → List ℕ
node_line called node = codes "  " ++ quoted called ++ node_attributes node ++ codes ";\n"

-- a link between packages that are called so, on a line
abbrev pub edge_line : List ℕ → List ℕ → Edge → List ℕ
edge_line from to edge = codes "  " ++ quoted from ++ codes " -> " ++ quoted to ++ edge_attributes edge ++ codes ";\n"

-- the lines, on which packages are called as `text` tells
abbrev pub called_node : (List ℕ → List ℕ) → Node → List ℕ
called_node text node = node_line (text node.id) node

abbrev pub called_edge : (List ℕ → List ℕ) → Edge → List ℕ
called_edge text edge = edge_line (text edge.from) (text edge.to) edge

-- the packages, then the links
abbrev pub dot_text : (List ℕ → List ℕ) → Drawing → List ℕ
dot_text text drawing = codes "digraph {\n" ++ flat_map (called_node text) drawing.nodes
    ++ flat_map (called_edge text) drawing.edges ++ codes "}\n"
