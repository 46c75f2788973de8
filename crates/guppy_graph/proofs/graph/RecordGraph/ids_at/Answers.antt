use Rattle.std.proofs.Common.{◌≡◌, ◌∙◌, ◌∷◌, ◌++◌, ◌+◌, [], sym, ap, map, take, get_or}
use Rattle.std.proofs.lemmas.List.{map_push, take_more}
use Rattle.guppy_graph.specs.Ids.{HasId, ix_position}
use Rattle.indexmap.proofs.SetLemmas.{AllZip-push}
use Rattle.guppy_graph.proofs.graph.RecordGraph.ids_at.Goals as goal

pub loop-ix-preserved : goal.loop-ix-preserved
loop-ix-preserved c =
    let packages = c.args.self.now.packages in
    let k = c.loop-ix.ix-index in
    let ix = get_or c.args.ixs.now k (record { 0 = 0 }) in
    let at = rw c.index.ensures.position at c.package_at.ensures in
    let has : HasId c.args.self.now.packages c.in_ok-clone.field-0 (ix_position (get_or c.args.ixs.now c.loop-ix.ix-index (record { 0 = 0 }))) = rw at (sym c.in_ok-clone.ensures.cases) in
    let taken : map ix_position (take (c.loop-ix.ix-index + 1) c.args.ixs.now) ≡ map ix_position (take c.loop-ix.ix-index c.args.ixs.now) ++ ix_position (get_or c.args.ixs.now c.loop-ix.ix-index (record { 0 = 0 })) ∷ [] = ap (map ix_position) (take_more c.args.ixs.now c.loop-ix.ix-index (record { 0 = 0 }) c.loop-ix-test.true) ∙ map_push ix_position (take c.loop-ix.ix-index c.args.ixs.now) (get_or c.args.ixs.now c.loop-ix.ix-index (record { 0 = 0 })) in
    rw (c.in_ok-push.ensures.items, taken) (AllZip-push (HasId c.args.self.now.packages) c.loop-ix.ids.items (map ix_position (take c.loop-ix.ix-index c.args.ixs.now)) c.in_ok-clone.field-0 (ix_position (get_or c.args.ixs.now c.loop-ix.ix-index (record { 0 = 0 }))) c.loop-ix.invariant has)
