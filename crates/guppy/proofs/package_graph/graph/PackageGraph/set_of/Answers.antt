use Rattle.std.proofs.Common.{◌<◌, length, arith}
use Rattle.std.proofs.lemmas.Iterator.Adapters.{YieldsList-from_vec}
use Rattle.guppy_graph.specs.Ids.{ix_position}
use Rattle.guppy_graph.proofs.Runs.{holds_along, drained}
use Rattle.guppy.proofs.NamedPositions.{All-ix_position}
use Rattle.guppy.proofs.package_graph.graph.PackageGraph.set_of.Goals as goal

pub from_ixs-requires-clause-below : goal.from_ixs-requires-clause-below
from_ixs-requires-clause-below c =
    let v = c.args.ixs in
    let count = c.args.self.now.packages in
    rw c.dep_graph.ensures.nodes (holds_along _ (λ ix. ix_position ix < length count) _ _
    (YieldsList-from_vec v.items c.into_iter.ensures.rest (omega (arith, c.into_iter.ensures.len, v.ok.0)))
    (All-ix_position (λ p. p < length count) v.items c.requires))

pub returns-clause-members : goal.returns-clause-members
returns-clause-members c =
    let v = c.args.ixs in
    let members = c.in_ok-core.ensures.members in
    let all = drained _ _ _ _ (YieldsList-from_vec v.items c.into_iter.ensures.rest (omega (arith, c.into_iter.ensures.len, v.ok.0))) members.1 in
    rw all at members.2
