use Rattle.std.proofs.Common.{◌≡◌, ◌∙◌, ⊎_elim, subst, true, map, take, string_bytes, List, ℕ}
use Rattle.std.proofs.lemmas.List.{take_all}
use Rattle.guppy_data.specs.Utf8Path.{path_text}
use Rattle.guppy_data.proofs.Mapped.{one_more_mapped}
use Rattle.guppy_folders.specs.Folders.{LiesIn}
use Rattle.guppy_folders.specs.Touched.{IsIgnored}
use Rattle.guppy_folders.proofs.Elements.{One-push}
use Rattle.guppy_folders.proofs.touched.is_ignored.Goals as goal

pub loop-folder-preserved : goal.loop-folder-preserved
loop-folder-preserved c = λ ignored.
    let path = path_text c.args.path in
    let texts = c.args.ignored.now in
    let text = c.new.ensures ∙ c.as_str.ensures.value in
    let more = subst (λ (folders : List (List ℕ)). IsIgnored folders path) (one_more_mapped string_bytes texts c.loop-folder.folder-index c.folder-item.result c.loop-folder-test.true c.folder-item.is) ignored in
    ⊎_elim c.loop-folder.invariant
    (λ (now : LiesIn (string_bytes c.folder-item.result) path). let is : c.lies_in.result ≡ true = c.lies_in.ensures.1 (rw text now) in absurd (cc))
    ((One-push (λ folder. LiesIn folder path) (map string_bytes (take c.loop-folder.folder-index texts)) (string_bytes c.folder-item.result)).0 more)

pub returns : goal.returns
returns c =
    let all = take_all c.loop-folder.folder-index c.args.ignored.now c.loop-folder-test.false in
    (λ h. absurd (cc h), λ ignored. absurd (c.loop-folder.invariant (rw all ignored)))
