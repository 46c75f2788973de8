use Rattle.std.proofs.Common.{◌≡◌, ℕ, ◌<◌, List, [], ◌∷◌, ◌++◌, Vec, Global, get_or, take, length, ap, ◌∙◌, sym, subst, arith}
use Rattle.std.proofs.lemmas.List.{take_all}
use Rattle.guppy_closure.proofs.MetBodies.{spare}
use Rattle.guppy_closure.specs.Needs.{AreSteps}
use Rattle.guppy_closure.proofs.NeededSteps.{number_low, found_at, head_low, step_more, step_same}
use Rattle.guppy_closure.proofs.reasons.steps_of.Goals as goal
use Rattle.guppy_closure.proofs.reasons.steps_of.Goals.{then-has_position+in_ok-push, else-has_position}

pub bounds-clauses-number : goal.bounds-clauses-number
bounds-clauses-number c =
    let found = c.args.closed.now.found.items in
    let i = c.found.number-index in
    let same = c.deref-number-items.ensures.value in
    let inside : i < length found = rw (← same) c.found-test.true in
    number_low c.args.clauses.now c.args.closed.now.facts found c.requires.found i _ inside (ap (λ (ns : List ℕ). get_or ns i 0) same)

pub has_position-requires : goal.has_position-requires
has_position-requires c =
    let facts = c.args.closed.now.facts in
    let found = c.args.closed.now.found.items in
    let cs = c.args.clauses.now in
    let i = c.found.number-index in
    let n = get_or c.deref-number-items.result.now i 0 in
    let same = c.deref-number-items.ensures.value in
    let inside : i < length found = rw (← same) c.found-test.true in
    let at = found_at cs facts found c.requires.found i n inside (ap (λ (ns : List ℕ). get_or ns i 0) same) in
    head_low cs facts found c.requires.found (length c.args.needed.now) i n (get_or cs n spare) c.requires.count at

pub found-preserved : goal.found-preserved
found-preserved c =
    let facts = c.args.closed.now.facts in
    let found = c.args.closed.now.found.items in
    let cs = c.args.clauses.now in
    let i = c.found.number-index in
    let n = get_or c.deref-number-items.result.now i 0 in
    let same = c.deref-number-items.ensures.value in
    let inside : i < length found = rw (← same) c.found-test.true in
    let at = found_at cs facts found c.requires.found i n inside (ap (λ (ns : List ℕ). get_or ns i 0) same) in
    elim c.if-has_position.branch [
      | then-has_position+in_ok-push w ↦
          let items : c.if-has_position.steps.items ≡ c.found.steps.items ++ n ∷ [] = ap (λ (v : Vec ℕ Global). v.items) w.steps-is ∙ w.in_ok-push.ensures.items in
          let more = step_more cs facts found c.requires.found c.args.needed.now c.requires.bodies c.found.steps.items i n (get_or cs n spare) at c.found.invariant.order c.found.invariant.steps (sym w.if-has_position.ensures.value) in
          rw items (record { order = more.0; steps = more.1 })
      | else-has_position w ↦ rw w.steps-is (record {
        order = c.found.invariant.order;
        steps = step_same cs facts found c.requires.found c.args.needed.now c.requires.bodies c.found.steps.items i n (get_or cs n spare) at c.found.invariant.order c.found.invariant.steps (λ h. absurd (let lacks = w.if-has_position.ensures.value in cc));
      })
    ]

pub returns-clause-steps : goal.returns-clause-steps
returns-clause-steps c =
    let found = c.args.closed.now.found.items in
    let same = c.deref-number-items.ensures.value in
    let size = ap (λ (ns : List ℕ). length ns) same in
    let over = c.found-test.false in
    let all : take c.found.number-index found ≡ found = take_all c.found.number-index found (omega arith) in
    subst (λ ns. AreSteps c.args.clauses.now ns c.args.needed.now c.found.steps.items) all c.found.invariant.steps
