use Rattle.std.proofs.Common.{sym, subst, map}
use Rattle.std.proofs.lemmas.List.{map_push}
use Rattle.guppy_graph.specs.Ids.{HasId, IsKnown, ix_position}
use Rattle.guppy_graph.proofs.Lists.{AllZip-more}
use Rattle.guppy_graph.proofs.graph.RecordGraph.ixs_of.Goals as goal

pub returns-in-None-clause-found : goal.returns-in-None-clause-found
returns-in-None-clause-found c = λ all. c.in-None.ensures.found (subst (IsKnown c.args.self.now.packages) (sym c.id-item.is) (all c.loop-id.id-index c.id-item.result c.loop-id-test.true))

pub loop-id-preserved : goal.loop-id-preserved
loop-id-preserved c =
    let zip = AllZip-more (HasId c.args.self.now.packages) c.args.ids.now (map ix_position c.loop-id.ixs.items) c.loop-id.id-index c.id-item.result (ix_position c.in-Some.ix) c.loop-id-test.true (sym c.id-item.is) c.loop-id.invariant c.in-Some.ensures.found in
    rw (c.in_ok-push-in-Some.ensures.items, map_push ix_position c.loop-id.ixs.items c.in-Some.ix) zip
