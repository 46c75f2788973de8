use Rattle.std.proofs.Common.{◌∙◌, sym, ap, subst, refl, true, false, [], ◌∷◌, ◌++◌, length, length-set, slice_set}
use Rattle.std.proofs.lemmas.List.{length-replicate}
use Rattle.guppy.specs.Listed.{listed_left}
use Rattle.guppy.specs.Asked.{AreAnswered}
use Rattle.guppy.proofs.CallbackAnswers.{asked_none, asked_all, may_ask, asked_more, fits, answered_none, answered_more, answered_otherwise}
use Rattle.guppy.proofs.Halves.{halves_of}
use Rattle.guppy.proofs.set.PackageSet.partition_mut.Goals as goal

pub loop-package-init : goal.loop-package-init
loop-package-init g c =
    let count = c.package_count.ensures ∙ ap (λ s. length s.graph.packages) c.self.view_is in
    let count-2 = c.package_count-2.ensures ∙ ap (λ s. length s.graph.packages) c.self.view_is in
    record {
      answers = [];
      so_far = asked_none _ _ _ _ _ (rw c.into_iter-package-iterator.ensures.into_iter_gives c.packages-package-items.ensures.left);
      accepted = subst (AreAnswered [] true) (sym c.in_ok-accepted.ensures) (answered_none true _);
      refused = subst (AreAnswered [] false) (sym c.in_ok-refused.ensures) (answered_none false _);
      count = (ap length c.in_ok-accepted.ensures ∙ (length-replicate _ false ∙ count), ap length c.in_ok-refused.ensures ∙ (length-replicate _ false ∙ count-2));
    }

pub answer_of-requires : goal.answer_of-requires
answer_of-requires g c = λ k. ((refl, tt), may_ask _ _ _ _ _ _ _ c.loop-package.invariant.so_far c.in-Some.package (listed_left c.next.new.self) c.in-Some.ensures.steps _ c.requires.callable)

pub insert-requires : goal.insert-requires
insert-requires g c = fits _ _ _ _ _ _ _ c.loop-package.invariant.so_far c.in-Some.package (listed_left c.next.new.self) c.in-Some.ensures.steps _ c.loop-package.invariant.count.0 _ c.package_ix.ensures

pub insert-requires-else-answer_of : goal.insert-requires-else-answer_of
insert-requires-else-answer_of g c = fits _ _ _ _ _ _ _ c.loop-package.invariant.so_far c.in-Some.package (listed_left c.next.new.self) c.in-Some.ensures.steps _ c.loop-package.invariant.count.1 _ c.package_ix-else-answer_of.ensures

pub loop-package-preserved-then-answer_of : goal.loop-package-preserved-then-answer_of
loop-package-preserved-then-answer_of g c =
    let here = c.in-Some.package in
    let i = c.loop-package.invariant in
    let fit = fits _ _ _ _ _ _ _ c.loop-package.invariant.so_far c.in-Some.package (listed_left c.next.new.self) c.in-Some.ensures.steps _ i.count.0 here.position refl in
    let now = c.insert.ensures.after ∙ ap (λ p. slice_set c.loop-package.accepted p true) c.package_ix.ensures in
    record {
      answers = i.answers ++ (here.position, true) ∷ [];
      so_far = asked_more _ _ _ _ _ _ _ c.loop-package.invariant.so_far c.in-Some.package (listed_left c.next.new.self) c.in-Some.ensures.steps true c.answer_of.new.callback (rw c.if-answer_of.true at c.answer_of.ensures);
      accepted = rw now (answered_more _ true _ i.accepted here.position fit);
      refused = answered_otherwise _ false _ i.refused here.position true (λ e. cc);
      count = (rw now (length-set _ _ _ ∙ i.count.0), i.count.1);
    }

pub loop-package-preserved : goal.loop-package-preserved
loop-package-preserved g c =
    let here = c.in-Some.package in
    let i = c.loop-package.invariant in
    let fit = fits _ _ _ _ _ _ _ c.loop-package.invariant.so_far c.in-Some.package (listed_left c.next.new.self) c.in-Some.ensures.steps _ i.count.1 here.position refl in
    let now = c.insert-else-answer_of.ensures.after ∙ ap (λ p. slice_set c.loop-package.refused p true) c.package_ix-else-answer_of.ensures in
    record {
      answers = i.answers ++ (here.position, false) ∷ [];
      so_far = asked_more _ _ _ _ _ _ _ c.loop-package.invariant.so_far c.in-Some.package (listed_left c.next.new.self) c.in-Some.ensures.steps false c.answer_of.new.callback (rw c.if-answer_of.false at c.answer_of.ensures);
      accepted = answered_otherwise _ true _ i.accepted here.position false (λ e. cc);
      refused = rw now (answered_more _ false _ i.refused here.position fit);
      count = (i.count.0, rw now (length-set _ _ _ ∙ i.count.1));
    }

pub returns-clause-asked : goal.returns-clause-asked
returns-clause-asked g c =
    let i = c.loop-package.invariant in
    (i.answers, asked_all _ _ _ _ _ _ _ c.loop-package.invariant.so_far c.in-None.ensures.steps.0, i.so_far.answered, rw c.part.ensures.included i.accepted, rw c.part-2.ensures.included i.refused)

pub returns-clause-halves : goal.returns-clause-halves
returns-clause-halves g c =
    let i = c.loop-package.invariant in
    rw (c.part.ensures.included, c.part-2.ensures.included)
    (halves_of c.args.direction c.args.self.now c.packages-package-items.ensures.members c.packages-package-items.ensures.once i.answers (asked_all _ _ _ _ _ _ _ c.loop-package.invariant.so_far c.in-None.ensures.steps.0) _ _ i.accepted i.refused)
