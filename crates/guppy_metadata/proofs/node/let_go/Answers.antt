use Rattle.std.proofs.Common.{inr, refl, slice_index_or}
use Rattle.std.proofs.lemmas.Option.{slice_get-get_or}
use Rattle.guppy_metadata.proofs.LetGo.{none_let, let_at}
use Rattle.guppy_metadata.proofs.node.let_go.Goals as goal

pub returns-in_default : goal.returns-in_default
returns-in_default c = none_let c.args.packages.now

pub returns-else-position-packages : goal.returns-else-position-packages
returns-else-position-packages c = none_let c.args.packages.now

pub returns-then-position-packages : goal.returns-then-position-packages
returns-then-position-packages c =
    let packages = c.args.packages.now in
    let k = c.in-Some.position.now in
    let p = slice_index_or packages k c.index-packages-position.result in
    let_at packages k p _ (slice_get-get_or packages k _ c.if-position-packages.true) (record { id = refl; source = refl; library = refl; record_is = refl; declared = inr c.new.ensures.items })
