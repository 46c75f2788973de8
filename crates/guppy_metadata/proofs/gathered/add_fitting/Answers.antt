use Rattle.std.proofs.Common.{◌≡◌, ◌∙◌, true, sym, arith}
use Rattle.guppy_metadata.specs.Fits.{fits}
use Rattle.guppy_metadata.proofs.FittingLists.{first_picked, picked_more, passed_over}
use Rattle.guppy_metadata.proofs.gathered.add_fitting.Goals.{then-index-eq0+in_ok-add_declared, then-index-eq0-via-then-index-eq0, then-index-eq0-via-else-index-eq0+then-fits, else-index-eq0+else-fits}
use Rattle.guppy_metadata.proofs.gathered.add_fitting.Goals as goal

pub loop-index-preserved : goal.loop-index-preserved
loop-index-preserved c =
    let p = fits c.args.wanted.now.asking.now c.args.wanted.now.resolved.now c.args.wanted.now.needed.now in
    let declared = c.args.declared.now in
    let k = c.loop-index.index in
    let item = c.index-declared-index.result in
    let was = c.loop-index.invariant in
    elim c.if-index-eq0.branch [
      | then-index-eq0+in_ok-add_declared w ↦
          let passes : p item ≡ true = elim w.then-index-eq0.branch [
            | then-index-eq0-via-then-index-eq0 v ↦ first_picked p declared k item c.loop-index-test.true c.index-declared-index.is (let first = v.if-index-eq0.true in omega arith) c.requires
            | then-index-eq0-via-else-index-eq0+then-fits v ↦ sym v.fits.ensures ∙ v.if-fits.true
          ] in
          rw w.link-is (
            (λ one other name joins. w.in_ok-add_declared.ensures.joins one other name (was.0 one other name joins)),
            (λ first named. w.in_ok-add_declared.ensures.named first (was.1 first named)),
            (λ bare. rw (picked_more p declared k item _ c.loop-index-test.true c.index-declared-index.is passes) (w.in_ok-add_declared.ensures.gathered _ (was.2 bare))),
          )
      | else-index-eq0+else-fits w ↦ rw w.link-is (
        was.0,
        was.1,
        (λ bare. rw (passed_over p declared k item _ c.loop-index-test.true c.index-declared-index.is (sym w.fits.ensures ∙ w.if-fits.false)) (was.2 bare)),
      )
    ]
