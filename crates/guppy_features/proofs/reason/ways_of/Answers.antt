use Rattle.std.proofs.Common.{List, subst, ◌∙◌}
use Rattle.std.proofs.lemmas.List.{take_all}
use Rattle.guppy_closure.specs.declared.clause.Clause.{Clause}
use Rattle.guppy_features.specs.declared.fact.Fact.{Fact}
use Rattle.guppy_features.specs.Reasons.{AreLeading}
use Rattle.guppy_features.proofs.Reasons.{leading_more, leading_other}
use Rattle.guppy_features.proofs.reason.ways_of.Goals.{then-is_way+in_ok-push, else-is_way}
use Rattle.guppy_features.proofs.reason.ways_of.Goals as goal

pub loop-clause-preserved : goal.loop-clause-preserved
loop-clause-preserved c =
    let all = c.clauses-clause-items.result.now in
    let i = c.loop-clause.clause-index in
    let ways = c.loop-clause.ways.items in
    elim c.if-is_way.branch [
      | then-is_way+in_ok-push w ↦ rw (w.ways-is, w.in_ok-push.ensures.items, w.of.ensures) (leading_more c.args.known.now c.args.fact all i _ ways c.is_way.result c.loop-clause-test.true c.loop-clause.invariant c.is_way.ensures w.if-is_way.true)
      | else-is_way w ↦ rw w.ways-is (leading_other c.args.known.now c.args.fact all i _ ways c.is_way.result c.loop-clause-test.true c.loop-clause.invariant c.is_way.ensures w.if-is_way.false)
    ]

pub returns : goal.returns
returns c =
    let all = take_all c.loop-clause.clause-index c.clauses-clause-items.result.now c.loop-clause-test.false ∙ c.clauses-clause-items.ensures in
    subst (λ (looked : List (Clause Fact)). AreLeading looked c.args.known.now c.args.fact c.loop-clause.ways.items) all c.loop-clause.invariant
