use Rattle.std.proofs.Common.{◌∙◌, sym, ap, subst, refl, true, false, Some, None, [], ◌∷◌, ◌++◌, length, length-set, slice_set}
use Rattle.std.proofs.lemmas.List.{length-replicate}
use Rattle.guppy.specs.Listed.{listed_left}
use Rattle.guppy.specs.Asked.{AreAnswered}
use Rattle.guppy.proofs.CallbackAnswers.{asked_none, asked_all, may_ask, asked_more, fits, answered_none, answered_more, answered_otherwise}
use Rattle.guppy.proofs.set.PackageSet.filter_partition_mut.Goals as goal

pub loop-package-init : goal.loop-package-init
loop-package-init g c =
    let count = c.package_count.ensures ∙ ap (λ s. length s.graph.packages) c.self.view_is in
    let count-2 = c.package_count-2.ensures ∙ ap (λ s. length s.graph.packages) c.self.view_is in
    record {
      answers = [];
      so_far = asked_none _ _ _ _ _ (rw c.into_iter-package-iterator.ensures.into_iter_gives c.packages-package-items.ensures.left);
      accepted = subst (AreAnswered [] (Some true)) (sym c.in_ok-accepted.ensures) (answered_none (Some true) _);
      refused = subst (AreAnswered [] (Some false)) (sym c.in_ok-refused.ensures) (answered_none (Some false) _);
      count = (ap length c.in_ok-accepted.ensures ∙ (length-replicate _ false ∙ count), ap length c.in_ok-refused.ensures ∙ (length-replicate _ false ∙ count-2));
    }

pub answer_of-requires : goal.answer_of-requires
answer_of-requires g c = λ k. ((refl, tt), may_ask _ _ _ _ _ _ _ c.loop-package.invariant.so_far c.in-Some.package (listed_left c.next.new.self) c.in-Some.ensures.steps _ c.requires.callable)

pub insert-requires : goal.insert-requires
insert-requires g c = fits _ _ _ _ _ _ _ c.loop-package.invariant.so_far c.in-Some.package (listed_left c.next.new.self) c.in-Some.ensures.steps _ c.loop-package.invariant.count.0 _ c.package_ix.ensures

pub insert-requires-in-Some-false : goal.insert-requires-in-Some-false
insert-requires-in-Some-false g c = fits _ _ _ _ _ _ _ c.loop-package.invariant.so_far c.in-Some.package (listed_left c.next.new.self) c.in-Some.ensures.steps _ c.loop-package.invariant.count.1 _ c.package_ix-in-Some-false.ensures

pub loop-package-preserved-in-Some-true : goal.loop-package-preserved-in-Some-true
loop-package-preserved-in-Some-true g c =
    let here = c.in-Some.package in
    let i = c.loop-package.invariant in
    let fit = fits _ _ _ _ _ _ _ c.loop-package.invariant.so_far c.in-Some.package (listed_left c.next.new.self) c.in-Some.ensures.steps _ i.count.0 here.position refl in
    let now = c.insert.ensures.after ∙ ap (λ p. slice_set c.loop-package.accepted p true) c.package_ix.ensures in
    let answer = c.in-Some-true.is ∙ ap Some c.in-Some-true.field-0-test in
    record {
      answers = i.answers ++ (here.position, Some true) ∷ [];
      so_far = asked_more _ _ _ _ _ _ _ c.loop-package.invariant.so_far c.in-Some.package (listed_left c.next.new.self) c.in-Some.ensures.steps (Some true) c.answer_of.new.callback (rw answer at c.answer_of.ensures);
      accepted = rw now (answered_more _ (Some true) _ i.accepted here.position fit);
      refused = answered_otherwise _ (Some false) _ i.refused here.position (Some true) (λ e. cc);
      count = (rw now (length-set _ _ _ ∙ i.count.0), i.count.1);
    }

pub loop-package-preserved-in-Some-false : goal.loop-package-preserved-in-Some-false
loop-package-preserved-in-Some-false g c =
    let here = c.in-Some.package in
    let i = c.loop-package.invariant in
    let fit = fits _ _ _ _ _ _ _ c.loop-package.invariant.so_far c.in-Some.package (listed_left c.next.new.self) c.in-Some.ensures.steps _ i.count.1 here.position refl in
    let now = c.insert-in-Some-false.ensures.after ∙ ap (λ p. slice_set c.loop-package.refused p true) c.package_ix-in-Some-false.ensures in
    let answer = c.in-Some-false.is ∙ ap Some c.in-Some-false.field-0-test in
    record {
      answers = i.answers ++ (here.position, Some false) ∷ [];
      so_far = asked_more _ _ _ _ _ _ _ c.loop-package.invariant.so_far c.in-Some.package (listed_left c.next.new.self) c.in-Some.ensures.steps (Some false) c.answer_of.new.callback (rw answer at c.answer_of.ensures);
      accepted = answered_otherwise _ (Some true) _ i.accepted here.position (Some false) (λ e. cc);
      refused = rw now (answered_more _ (Some false) _ i.refused here.position fit);
      count = (i.count.0, rw now (length-set _ _ _ ∙ i.count.1));
    }

pub loop-package-preserved : goal.loop-package-preserved
loop-package-preserved g c =
    let here = c.in-Some.package in
    let i = c.loop-package.invariant in
    record {
      answers = i.answers ++ (here.position, None) ∷ [];
      so_far = asked_more _ _ _ _ _ _ _ c.loop-package.invariant.so_far c.in-Some.package (listed_left c.next.new.self) c.in-Some.ensures.steps None c.answer_of.new.callback (rw c.in-None-answer_of.is at c.answer_of.ensures);
      accepted = answered_otherwise _ (Some true) _ i.accepted here.position None (λ e. cc);
      refused = answered_otherwise _ (Some false) _ i.refused here.position None (λ e. cc);
      count = i.count;
    }

pub returns-clause-asked : goal.returns-clause-asked
returns-clause-asked g c =
    let i = c.loop-package.invariant in
    (i.answers, asked_all _ _ _ _ _ _ _ c.loop-package.invariant.so_far c.in-None.ensures.steps.0, i.so_far.answered, rw c.part.ensures.included i.accepted, rw c.part-2.ensures.included i.refused)
