use Rattle.std.proofs.Common.{◌∙◌, sym, ap, subst, refl, true, false, [], ◌∷◌, ◌++◌, length, length-set, slice_set}
use Rattle.std.proofs.lemmas.List.{length-replicate}
use Rattle.guppy.specs.Listed.{listed_left}
use Rattle.guppy.specs.Asked.{AreAnswered}
use Rattle.guppy.proofs.CallbackAnswers.{asked_none, asked_all, may_ask, asked_more, fits, answered_none, answered_more, answered_otherwise}
use Rattle.guppy.proofs.set.PackageSet.filter_mut.Goals as goal

pub loop-package-init : goal.loop-package-init
loop-package-init g c = record {
  answers = [];
  so_far = asked_none _ _ _ _ _ (rw c.into_iter-package-iterator.ensures.into_iter_gives c.packages-package-items.ensures.left);
  kept = subst (AreAnswered [] true) (sym c.in_ok-kept.ensures) (answered_none true _);
  count = ap length c.in_ok-kept.ensures ∙ (length-replicate _ false ∙ (c.package_count.ensures ∙ ap (λ s. length s.graph.packages) c.self.view_is));
}

pub answer_of-requires : goal.answer_of-requires
answer_of-requires g c = λ k. ((refl, tt), may_ask _ _ _ _ _ _ _ c.loop-package.invariant.so_far c.in-Some.package (listed_left c.next.new.self) c.in-Some.ensures.steps _ c.requires.callable)

pub insert-requires : goal.insert-requires
insert-requires g c = fits _ _ _ _ _ _ _ c.loop-package.invariant.so_far c.in-Some.package (listed_left c.next.new.self) c.in-Some.ensures.steps _ c.loop-package.invariant.count _ c.package_ix.ensures

pub loop-package-preserved-then-answer_of : goal.loop-package-preserved-then-answer_of
loop-package-preserved-then-answer_of g c =
    let here = c.in-Some.package in
    let fit = fits _ _ _ _ _ _ _ c.loop-package.invariant.so_far c.in-Some.package (listed_left c.next.new.self) c.in-Some.ensures.steps _ c.loop-package.invariant.count here.position refl in
    let now = c.insert.ensures.after ∙ ap (λ p. slice_set c.loop-package.kept p true) c.package_ix.ensures in
    record {
      answers = c.loop-package.invariant.answers ++ (here.position, true) ∷ [];
      so_far = asked_more _ _ _ _ _ _ _ c.loop-package.invariant.so_far c.in-Some.package (listed_left c.next.new.self) c.in-Some.ensures.steps true c.answer_of.new.callback (rw c.if-answer_of.true at c.answer_of.ensures);
      kept = rw now (answered_more _ true _ c.loop-package.invariant.kept here.position fit);
      count = rw now (length-set _ _ _ ∙ c.loop-package.invariant.count);
    }

pub loop-package-preserved : goal.loop-package-preserved
loop-package-preserved g c =
    let here = c.in-Some.package in
    record {
      answers = c.loop-package.invariant.answers ++ (here.position, false) ∷ [];
      so_far = asked_more _ _ _ _ _ _ _ c.loop-package.invariant.so_far c.in-Some.package (listed_left c.next.new.self) c.in-Some.ensures.steps false c.answer_of.new.callback (rw c.if-answer_of.false at c.answer_of.ensures);
      kept = answered_otherwise _ true _ c.loop-package.invariant.kept here.position false (λ e. cc);
      count = c.loop-package.invariant.count;
    }

pub returns-clause-asked : goal.returns-clause-asked
returns-clause-asked g c =
    let i = c.loop-package.invariant in
    (i.answers, asked_all _ _ _ _ _ _ _ c.loop-package.invariant.so_far c.in-None.ensures.steps.0, i.so_far.answered, rw c.part.ensures.included i.kept)
