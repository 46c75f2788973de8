use Rattle.std.proofs.Common.{◌∙◌, [], ◌∷◌, ◌++◌, refl, sym, ap, arith}
use Rattle.std.proofs.lemmas.List.{append_assoc, append-nil}
use Rattle.indexmap.proofs.SetLemmas.{AllZip-push}
use Rattle.json.specs.Json.{array}
use Rattle.json.specs.Value.{items_of}
use Rattle.guppy_metadata.specs.Buffer.{links_in}
use Rattle.guppy_metadata.specs.Links.{IsLink}
use Rattle.guppy_metadata.proofs.Turns.{no_item_read, next_read, item_takes, list_told}
use Rattle.guppy_metadata.proofs.link.read_links.Goals as goal

pub loop-asking-init : goal.loop-asking-init
loop-asking-init c = ([], no_item_read 123 _, [], sym (append-nil (links_in c.args.links.now)), tt)

pub loop-asking-preserved : goal.loop-asking-preserved
loop-asking-preserved c =
    let l = c.loop-asking in
    let were = l.invariant in
    let more = c.in_ok-read_link.ensures in
    let link = more.2 in (
      were.0 ++ more.0 ∷ [],
      next_read 123 _ were.0 l.reader _ _ more.0 were.1 c.loop-asking-test.ensures more.1,
      were.2 ++ link ∷ [],
      more.3 ∙ (ap (λ front. front ++ link ∷ []) were.3 ∙ append_assoc (links_in c.args.links.now) were.2 (link ∷ [])),
      AllZip-push (IsLink c.args.packages.packages.now c.args.from.now) _ _ _ _ were.4 more.4,
    )

pub loop-asking-smaller : goal.loop-asking-smaller
loop-asking-smaller c =
    let more = c.in_ok-read_link.ensures in
    item_takes 123 c.loop-asking.reader _ _ more.0 c.loop-asking-test.ensures more.1

pub returns : goal.returns
returns c =
    let were = c.loop-asking.invariant in (
      array (items_of were.0),
      list_told 124 _ c.next.new.self _ were.0 c.loop-asking.reader _ (omega arith) c.in-Some-BeginArray.ensures.value c.in-Some-BeginArray.field-0-is were.1 c.loop-asking-test.ensures,
      were.2,
      were.3,
      (were.0, refl, were.4),
    )
