use Rattle.std.proofs.Common.{sym, subst, ◌<◌, length}
use Rattle.guppy_graph.specs.Ids.{ix_position}
use Rattle.guppy_graph.specs.Accepted.{distinct_ids}
use Rattle.guppy_graph.proofs.PackageIds.{within_of}
use Rattle.guppy_graph.proofs.Dependence.{directly_by_link}
use Rattle.guppy_graph.proofs.graph.RecordGraph.directly_depends_on.Goals as goal

pub find_link-requires : goal.find_link-requires
find_link-requires c =
    subst (λ g. ix_position c.in_ok-from.from < length g.packages) (sym c.self.view_is) (within_of _ c.args.a.now _ c.in_ok-from.ensures.first)

pub returns-clause-answer : goal.returns-clause-answer
returns-clause-answer c =
    rw c.is_some.ensures (directly_by_link c.args.self.now (c.in_ok-from.ensures.graph.accepted distinct_ids) c.args.a.now c.args.b.now (ix_position c.in_ok-from.from) (ix_position c.in_ok-from.to) c.in_ok-from.ensures.first c.in_ok-from.ensures.second c.find_link.result (rw (← c.self.view_is) c.find_link.ensures))
