use Rattle.std.proofs.Common.{◌≡◌, sym, subst, refl, ◌<◌, length, arith, List}
use Rattle.std.specs.Prelude.{slice_get, IsSomeAnd}
use Rattle.std.proofs.lemmas.Option.{slice_get_read}
use Rattle.std.proofs.lemmas.Slice.Zip.{AllZip-long}
use Rattle.guppy_data.specs.declared.records.PackageRecord.{PackageRecord}
use Rattle.guppy_graph.specs.Indexes.{IsTargetIndex}
use Rattle.guppy_graph.proofs.Lists.{AllZip-at, some_at}
use Rattle.guppy_graph.proofs.graph.RecordGraph.targets_by_id.Goals as goal

pub index-requires : goal.index-requires
index-requires c =
    let packages : List PackageRecord = c.self.inside.graph.nodes in
    let indexes = c.self.inside.indexes.by_target in
    let long : length indexes.items ≡ length packages = AllZip-long (λ r index. IsTargetIndex r.build_targets.items index.items) packages indexes.items c.self.invariant.indexes.by_target in
    let below : c.args.position < length packages = subst (λ g. c.args.position < length g.packages) (sym c.self.view_is) c.requires in
    omega (arith, indexes.ok.0)

pub returns : goal.returns
returns c =
    let packages : List PackageRecord = c.self.inside.graph.nodes in
    let indexes = c.self.inside.indexes.by_target in
    let long : length indexes.items ≡ length packages = AllZip-long (λ r index. IsTargetIndex r.build_targets.items index.items) packages indexes.items c.self.invariant.indexes.by_target in
    let below : c.args.position < length packages = subst (λ g. c.args.position < length g.packages) (sym c.self.view_is) c.requires in
    let within : c.args.position < length indexes.items = omega arith in
    let r = some_at packages c.args.position below in
    let index = slice_get_read indexes.items _ c.args.position c.index.result.now refl within c.index.ensures in
    let up = AllZip-at (λ r index. IsTargetIndex r.build_targets.items index.items) packages indexes.items c.args.position r.0 c.index.result.now c.self.invariant.indexes.by_target r.1 index in
    subst (λ g. IsSomeAnd (slice_get g.packages c.args.position) (λ q. IsTargetIndex q.build_targets.items c.as_slice.result.now)) c.self.view_is (rw (r.1, c.as_slice.ensures.value) up)
