use Rattle.std.proofs.Common.{◌<◌, length, sym, subst, arith}
use Rattle.std.specs.Prelude.{All}
use Rattle.guppy_flat.specs.Flat.{plain}
use Rattle.guppy_flat.proofs.FlatLinks.{length-plain}
use Rattle.guppy_flat.proofs.JudgedTraces.{all_leaving}
use Rattle.guppy_flat.proofs.judging.shown_are_leaving.Goals as goal

pub returns-in-Some : goal.returns-in-Some
returns-in-Some c =
    let links = plain c.args.links.now in
    let size = length-plain c.args.links.now in
    let below : All (λ n. n < length links) c.args.shown.now = subst (λ count. All (λ n. n < count) c.args.shown.now) (sym size) c.requires in
    let once = rw c.in-Some.is at c.in_ok-marks.ensures.once in
    let marked = rw c.in-Some.is at c.in_ok-marks.ensures.marked in
    let told = rw c.as_slice.ensures.value at c.leaving_are_marked.ensures in (
      λ h. (
        once,
        all_leaving c.args.direction links c.args.set.now c.args.shown.now below (λ n within.
            let m = marked n in
            let l = told.0 h n (omega arith) in
            (λ x. l.0 (m.1 x), λ x. m.0 (l.1 x))),
      ),
      λ shows. told.1 (λ n within.
          let m = marked n in
          let l = shows.1 n in
          (λ x. l.0 (m.0 x), λ x. m.1 (l.1 x))),
    )
