-- The set of all packages.
use Rattle.std.proofs.Common.{◌≡◌, ◌∙◌, ap, Bool, true, List, length, replicate}
use Rattle.guppy_graph.specs.Graph.{GraphData}
use Rattle.guppy.specs.Query.{SetData}
use Rattle.guppy_program.specs.Answer.{all_packages}

-- a set of all packages is the set of all packages
pub set_is_all : (s : SetData) (g : GraphData) → s.graph ≡ g → s.included ≡ replicate (length g.packages) true → s ≡ all_packages g
set_is_all s g same all =
    let with_included : List Bool → SetData = λ included. record { graph = s.graph; included = included } in
    let with_graph : GraphData → SetData = λ graph. record { graph = graph; included = replicate (length g.packages) true } in
    ap with_included all ∙ ap with_graph same
