use Rattle.std.proofs.Common.{◌≡◌, ⊎_elim, subst, true, map, take}
use Rattle.std.specs.declared.vec.Vec.{Vec}
use Rattle.std.specs.declared.alloc.Global.{Global}
use Rattle.std.proofs.lemmas.List.{take_all}
use Rattle.guppy_data.specs.Component.{part_shown}
use Rattle.guppy_data.specs.declared.texts.component.Component.{Component}
use Rattle.guppy_data.proofs.Mapped.{one_more_mapped}
use Rattle.guppy_folders.specs.Folders.{lists_in}
use Rattle.guppy_folders.specs.Places.{Meets, MeetsOne}
use Rattle.guppy_folders.proofs.Elements.{One-push}
use Rattle.guppy_folders.proofs.places.meets_one.Goals as goal

pub loop-place-preserved : goal.loop-place-preserved
loop-place-preserved c = λ meets.
    let folder = map part_shown c.args.folder.now in
    let places = c.args.places.now in
    let i = c.loop-place.place-index in
    let own = map part_shown c.place-item.result.items in
    let more = subst (MeetsOne folder) (one_more_mapped (λ (l : Vec Component Global). map part_shown l.items) places i c.place-item.result c.loop-place-test.true c.place-item.is) meets in
    ⊎_elim c.loop-place.invariant
    (λ (now : Meets folder own). let is : c.meets.result ≡ true = c.meets.ensures.1 (rw c.as_slice.ensures.value now) in absurd (cc))
    ((One-push (Meets folder) (lists_in (take i places)) own).0 more)

pub returns : goal.returns
returns c =
    let all = take_all c.loop-place.place-index c.args.places.now c.loop-place-test.false in
    (λ h. absurd (cc h), λ meets. absurd (c.loop-place.invariant (rw all meets)))
