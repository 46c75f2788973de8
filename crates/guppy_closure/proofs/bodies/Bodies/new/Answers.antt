use Rattle.std.proofs.Common.{inl, inr, ◌∙◌, arith}
use Rattle.guppy_closure.proofs.MetBodies.{spare}
use Rattle.guppy_closure.proofs.Linked.{slots-push}
use Rattle.std.proofs.lemmas.List.{take_more}
use Rattle.guppy_closure.proofs.bodies.Bodies.new.Goals as goal

pub add-requires-clause-within : goal.add-requires-clause-within
add-requires-clause-within c = λ f e.
    let low = (c.requires.within c.clauses.clause-index spare c.clauses-test.true).body f (inl e) in
    let size = c.clauses.invariant.count in
    omega arith

pub add-requires-in-clauses-clause-within : goal.add-requires-in-clauses-clause-within
add-requires-in-clauses-clause-within c = λ f e.
    let low = (c.requires.within c.clauses.clause-index spare c.clauses-test.true).body f (inr e) in
    let size = c.clauses.invariant.count in
    let same = c.add.ensures.count in
    omega arith

pub clauses-preserved : goal.clauses-preserved
clauses-preserved c =
    let k = c.clauses.clause-index in
    let s = c.clauses.invariant in
    record {
      count = c.add-in-clauses.ensures.count ∙ (c.add.ensures.count ∙ s.count);
      linked = rw (take_more c.args.clauses.now k spare c.clauses-test.true, slots-push) (c.add-in-clauses.ensures.linked _ (c.add.ensures.linked _ s.linked));
      used = let first = c.add.ensures.length in let second = c.add-in-clauses.ensures.length in let used = s.used in omega arith;
      room = rw (c.add-in-clauses.ensures.capacity, c.add.ensures.capacity) s.room;
    }
