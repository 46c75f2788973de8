use Rattle.std.proofs.Common.{◌≡◌, ◌+◌, ◌<◌, ◌≤◌, Bool, false, List, [], sym, get_or, length, drop, vec_capacity, ◌∙◌, ap, arith}
use Rattle.std.proofs.Math.ListN.{length-replicate}
use Rattle.std.proofs.lemmas.List.{drop_all}
use Rattle.std.proofs.lemmas.Option.{slice_get-get_or, slice_get_within}
use Rattle.guppy_closure.proofs.MetBodies.{spare}
use Rattle.guppy_closure.specs.Clauses.{is_given}
use Rattle.guppy_closure.proofs.Steps.{looks_size, closing_none, closing_room, spent_few, closing_done, closing_skipped, closing_looked, next_in_order}
use Rattle.guppy_closure.proofs.Counting.{given_next, not_given_next, not_given}
use Rattle.guppy_closure.proofs.closing.Closed.begin.Goals as goal

pub clauses-init : goal.clauses-init
clauses-init c =
    record {
      count = ap (λ (s : List Bool). length s) c.in_ok-facts.ensures ∙ length-replicate c.args.count false;
      closing = rw (c.in_ok-facts.ensures, c.in_ok-found.ensures.items) (closing_none c.args.clauses.now c.args.count (λ n. 0 ≤ n) (λ n. omega arith) _ (omega arith));
      room = c.in_ok-found.ensures.capacity;
    }

pub clauses-preserved-then-not-is_given : goal.clauses-preserved-then-not-is_given
clauses-preserved-then-not-is_given c =
    let s = c.clauses.invariant in
    let k = c.clauses.number in
    let d = get_or c.args.clauses.now k spare in
    let fails : is_given d ≡ false = sym c.if-not-is_given.ensures in
    let next = not_given_next c.args.clauses.now k spare c.clauses-test.true fails in
    record {
      count = s.count;
      closing = closing_skipped c.args.clauses.now c.clauses.closed.facts c.clauses.closed.found.items 0 _ (λ n. k ≤ n) s.closing (λ n. k + 1 ≤ n)
          k d (slice_get-get_or c.args.clauses.now k spare c.clauses-test.true) (next_in_order k) (not_given d fails) (λ f i. (s.closing.derived f).0 i) _ (omega arith);
      room = s.room;
    }

pub look-requires-clause-room : goal.look-requires-clause-room
look-requires-clause-room c = λ new.
    let s = c.clauses.invariant in
    let d = get_or c.args.clauses.now c.clauses.number spare in
    let within = c.requires.within c.clauses.number spare c.clauses-test.true in
    let room = closing_room c.args.clauses.now c.clauses.closed.facts c.clauses.closed.found.items 0 _ _ s.closing d.head c.args.count (vec_capacity c.clauses.closed.found) within.head s.count s.room new in
    omega (arith, c.clauses.closed.found.ok.0)

pub look-requires-clause-looks : goal.look-requires-clause-looks
look-requires-clause-looks c =
    let few = spent_few c.args.clauses.now c.clauses.closed.facts c.clauses.closed.found.items 0 _ _ c.clauses.invariant.closing in
    omega arith

pub clauses-preserved : goal.clauses-preserved
clauses-preserved c =
    let s = c.clauses.invariant in
    let k = c.clauses.number in
    let d = get_or c.args.clauses.now k spare in
    let within = c.requires.within k spare c.clauses-test.true in
    let below : d.head < length c.clauses.closed.facts = rw s.count within.head in
    let looked = c.look.ensures.effect in
    let one = c.look.ensures.looks in
    let next = given_next c.args.clauses.now k spare c.clauses-test.true (sym c.if-not-is_given.ensures) in
    record {
      count = looks_size d k c.clauses.closed.facts c.clauses.closed.found.items c.look.new.self.facts c.look.new.self.found.items looked ∙ s.count;
      closing = closing_looked c.args.clauses.now c.clauses.closed.facts c.clauses.closed.found.items 0 _ (λ n. k ≤ n) s.closing (λ n. k + 1 ≤ n)
          k d c.look.new.self.facts c.look.new.self.found.items (slice_get-get_or c.args.clauses.now k spare c.clauses-test.true) (next_in_order k) below looked _ (omega arith);
      room = rw c.look.ensures.capacity s.room;
    }

pub returns-clause-closing : goal.returns-clause-closing
returns-clause-closing c =
    let over = c.clauses-test.false in
    let none : drop c.clauses.number c.args.clauses.now ≡ [] = drop_all c.clauses.number c.args.clauses.now over in
    closing_done c.args.clauses.now c.clauses.closed.facts c.clauses.closed.found.items 0 _ (λ n. c.clauses.number ≤ n) c.clauses.invariant.closing _
    (λ m d found here. let inside = slice_get_within c.args.clauses.now m d found in omega arith) c.clauses.closed.looks (rw none (omega arith))
