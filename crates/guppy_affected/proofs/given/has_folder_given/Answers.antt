use Rattle.std.proofs.Common.{◌≡◌, ⊎_elim, refl, subst, true, ℕ, List, Bor, map, take}
use Rattle.std.proofs.lemmas.List.{take_all}
use Rattle.guppy_data.specs.Path.{Part}
use Rattle.guppy.specs.Views.{graph_of, package_position}
use Rattle.guppy_data.proofs.Mapped.{there_mapped, one_more_mapped}
use Rattle.guppy_folders.specs.Folders.{lists_in}
use Rattle.guppy_folders.specs.Places.{MeetsOne}
use Rattle.guppy_folders.proofs.Elements.{One-push}
use Rattle.guppy_affected.specs.Folders.{Given, IsGivenTo, HasFolderGiven}
use Rattle.guppy_affected.proofs.given.has_folder_given.Goals as goal

abbrev seen : Bor (List ℕ) × List ℕ → Given
seen given = (given.0.now, given.1)

pub returns-then-branch : goal.returns-then-branch
returns-then-branch c =
    let item = c.loop-folder-item.result in (
      λ h. (seen item, there_mapped seen c.args.also.now c.loop-folder.folder-index item c.loop-folder-test.true c.loop-folder-item.is, c.in_ok-is_given.ensures.0 c.if-branch.true),
      λ one. refl,
    )

pub loop-folder-preserved : goal.loop-folder-preserved
loop-folder-preserved c = λ one.
    let g = (graph_of c.args.metadata).now in
    let p = package_position c.args.metadata in
    let P = λ (folder : List Part). MeetsOne folder (lists_in c.args.places.now) in
    let also = c.args.also.now in
    let i = c.loop-folder.folder-index in
    let item = c.loop-folder-item.result in
    let more = subst (λ (l : List Given). HasFolderGiven g l P p) (one_more_mapped seen also i item c.loop-folder-test.true c.loop-folder-item.is) one in
    ⊎_elim c.loop-folder.invariant
    (λ (now : IsGivenTo g P p (seen item)). let is : c.in_ok-is_given.field-0 ≡ true = c.in_ok-is_given.ensures.1 now in absurd (cc))
    ((One-push (IsGivenTo g P p) (map seen (take i also)) (seen item)).0 more)

pub returns : goal.returns
returns c =
    let all = take_all c.loop-folder.folder-index c.args.also.now c.loop-folder-test.false in
    (λ h. absurd (cc h), λ one. absurd (c.loop-folder.invariant (rw all one)))
