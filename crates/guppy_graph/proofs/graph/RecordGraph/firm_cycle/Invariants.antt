use Rattle.guppy_graph.specs.Ordered.{is_firm}
use Rattle.guppy_graph.proofs.graph.RecordGraph.firm_cycle.Given as goal

abbrev pub ghost-find_cycle : goal.ghost-find_cycle
ghost-find_cycle a = is_firm
