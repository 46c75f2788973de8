use Rattle.std.proofs.Common.{◌≡◌, refl, subst, get_or}
use Rattle.std.proofs.lemmas.List.{take_all, get_or_default}
use Rattle.std.specs.List.{AllZip}
use Rattle.guppy_search.specs.declared.ix.index_type.PackageIx.{PackageIx}
use Rattle.guppy.specs.declared.metadata.PackageMetadata.{PackageMetadata}
use Rattle.guppy_graph.specs.Ids.{ix_position}
use Rattle.guppy_graph.proofs.Lists.{AllZip-more}
use Rattle.guppy.proofs.workspace.Workspace.members_at.Goals as goal

pub loop-ix-preserved : goal.loop-ix-preserved
loop-ix-preserved c =
    let R : PackageIx → PackageMetadata → Type 0 = λ ix m. (m.graph ≡ c.args.self.graph) × (m.position ≡ ix_position ix) in
    let none : PackageIx = record { 0 = 0 } in
    let ix = get_or c.args.ixs.now c.loop-ix.ix-index none in
    rw c.in_ok-push.ensures.items (AllZip-more R c.args.ixs.now c.loop-ix.members.items c.loop-ix.ix-index ix _ c.loop-ix-test.true
    (get_or_default c.args.ixs.now c.loop-ix.ix-index ix none c.loop-ix-test.true) c.loop-ix.invariant (refl, c.index.ensures.position))

pub returns : goal.returns
returns c =
    let R : PackageIx → PackageMetadata → Type 0 = λ ix m. (m.graph ≡ c.args.self.graph) × (m.position ≡ ix_position ix) in
    subst (λ ixs. AllZip R ixs c.loop-ix.members.items) (take_all c.loop-ix.ix-index c.args.ixs.now c.loop-ix-test.false) c.loop-ix.invariant
