use Rattle.std.proofs.Common.{All, ◌<◌, ℕ, subst}
use Rattle.std.proofs.lemmas.List.{take_all}
use Rattle.std.proofs.lemmas.List.Elements.{All-more}
use Rattle.guppy_core_tests.proofs.buffered.first_unknown.Goals as goal

pub loop-number-preserved : goal.loop-number-preserved
loop-number-preserved c = All-more (λ (n : ℕ). n < c.args.link_count) c.args.links.now c.loop-number.number 0 c.loop-number-test.true c.loop-number.invariant c.if-link-link_count.false

pub returns : goal.returns
returns c = subst (All (λ (n : ℕ). n < c.args.link_count)) (take_all c.loop-number.number c.args.links.now c.loop-number-test.false) c.loop-number.invariant
