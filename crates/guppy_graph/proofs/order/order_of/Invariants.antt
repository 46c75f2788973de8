use Rattle.guppy_graph.specs.Ordered.{is_firm}
use Rattle.guppy_graph.proofs.order.order_of.Given as goal

abbrev pub ghost-new : goal.ghost-new
ghost-new a = is_firm
