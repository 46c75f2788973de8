use Rattle.std.proofs.Common.{◌≡◌, ◌∙◌, ◌+◌, ◌∷◌, [], ◌++◌, map, take, ap, sym, subst}
use Rattle.std.proofs.lemmas.List.{take_more, take_all}
use Rattle.std.specs.List.{AllZip}
use Rattle.guppy_platforms.specs.Host.{IsMark}
use Rattle.guppy_platforms.specs.HostClauses.{clauses_of}
use Rattle.guppy_platforms.proofs.Numbers.{text_of, grown_clauses, grows_on, zip_push}
use Rattle.guppy_platforms.proofs.host.known_marks.Goals as goal

pub loop-link-preserved : goal.loop-link-preserved
loop-link-preserved c =
    let links = c.args.links.now in
    let l = c.loop-link in
    let k = l.link-index in
    let d = c.link-item.result in
    let first = map text_of c.args.ids.now.keys in
    let before = map text_of l.ids.keys in
    let after = map text_of c.mark_of.new.ids.keys in
    let next : take (k + 1) links ≡ take k links ++ d ∷ [] = take_more links k d c.loop-link-test.true ∙ ap (λ z. take k links ++ z ∷ []) (sym c.link-item.is) in
    record {
      marked = λ packages all same.
          let now_same = grown_clauses first before l.invariant.grows (clauses_of packages all) c.args.known.now same in
          rw (next, c.in_ok-push.ensures.items) (zip_push (IsMark packages all) (take k links) l.marks.items d c.in_ok-mark_of.field-0 (l.invariant.marked packages all same) (c.in_ok-mark_of.ensures.runs packages all now_same));
      grows = grows_on first before after l.invariant.grows c.in_ok-mark_of.ensures.grows;
    }

pub returns : goal.returns
returns c packages all same =
    subst (λ links. AllZip (IsMark packages all) links c.loop-link.marks.items) (take_all c.loop-link.link-index c.args.links.now c.loop-link-test.false) (c.loop-link.invariant.marked packages all same)
