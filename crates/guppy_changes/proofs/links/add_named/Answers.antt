use Rattle.guppy_changes.specs.Shown.{all_shown}
use Rattle.guppy_changes.proofs.Steps.{adds_of_none, adds_of_next}
use Rattle.guppy_changes.proofs.links.add_named.Goals as goal

pub loop-name-init : goal.loop-name-init
loop-name-init c = rw (c.into_iter-name-iterator.ensures.into_iter_gives, c.iter-name-items.ensures.rest) (λ new a. a)

pub loop-name-preserved : goal.loop-name-preserved
loop-name-preserved c =
    let added = rw c.as_str.ensures.value at c.in_ok-add_if.ensures in
    let left = c.in-Some.ensures.steps in
    λ new a. c.loop-name.invariant new (rw left (adds_of_next _ _ added a))

pub returns : goal.returns
returns c = let left = c.in-None.ensures.steps.0 in c.loop-name.invariant (all_shown c.loop-name.marks.items) (rw left (adds_of_none _ _))
