use Rattle.std.proofs.Common.{◌∙◌, ap}
use Rattle.guppy_graph.specs.Cycles.{has_self_link}
use Rattle.guppy_graph.specs.Ids.{ix_position}
use Rattle.guppy.proofs.CyclicComponents.{found_self_link}
use Rattle.guppy.proofs.cycles.has_self_link.Goals as goal

pub returns : goal.returns
returns c = c.is_some.ensures ∙ found_self_link _ _ _ c.find_link.ensures ∙ ap (λ links. has_self_link links (ix_position c.args.ix)) c.dep_graph.ensures.links
