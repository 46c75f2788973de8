use Rattle.std.proofs.Common.{rules, subst, sym, List}
use Rattle.guppy_data.specs.Path.{Part}
use Rattle.guppy_data.specs.Component.{parts_left}
use Rattle.guppy_folders.specs.Folders.{IsInside}
use Rattle.guppy_folders.proofs.Prefixes.{Inside-nothing, next_same, next_other}
use Rattle.guppy_folders.proofs.folders.lies_in.Goals as goal

pub loop-part-init : goal.loop-part-init
loop-part-init c = rw (c.into_iter-part-iterator.ensures.into_iter_gives, c.components-part-items.ensures, c.components-rest.ensures) (λ b. b, λ b. b)

pub returns-then-ne : goal.returns-then-ne
returns-then-ne c =
    let differ = c.ne.ensures in
    (λ h. absurd (cc h), λ begins. absurd (next_other c.in-Some.part c.loop-part.rest c.next-in-loop-part.new.self _ _ c.next-in-loop-part.result c.next-in-loop-part.ensures.steps (search rules) c.in-Some.ensures.steps (c.loop-part.invariant.0 begins)))

pub loop-part-preserved : goal.loop-part-preserved
loop-part-preserved c =
    let now = next_same c.in-Some.part c.loop-part.rest c.next-in-loop-part.new.self _ _ c.next-in-loop-part.result c.next-in-loop-part.ensures.steps (search rules) c.in-Some.ensures.steps in
    (λ b. now.0 (c.loop-part.invariant.0 b), λ b. c.loop-part.invariant.1 (now.1 b))

pub returns : goal.returns
returns c =
    let nothing = Inside-nothing (parts_left c.loop-part.rest) in
    let left = c.in-None.ensures.steps.0 in (
      λ h. c.loop-part.invariant.1 (subst (λ (front : List Part). IsInside front (parts_left c.loop-part.rest)) (sym left) (nothing.1 (c.are_names.ensures.0 h))),
      λ inside. c.are_names.ensures.1 (nothing.0 (subst (λ (front : List Part). IsInside front (parts_left c.loop-part.rest)) left (c.loop-part.invariant.0 inside))),
    )
