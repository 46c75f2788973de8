use Rattle.std.proofs.Common.{◌<◌, length, sym, ap, ◌∙◌, subst}
use Rattle.std.specs.Prelude.{All}
use Rattle.std.specs.List.{filter}
use Rattle.std.proofs.lemmas.List.Elements.{All-tail}
use Rattle.guppy_search.specs.IxSet.{has}
use Rattle.guppy_core.proofs.SetMembers.{filter_skips}
use Rattle.guppy_core.proofs.resolve_core.topo.first_included.Goals as goal

pub returns-then-contains-clause-below : goal.returns-then-contains-clause-below
returns-then-contains-clause-below g c =
    All-tail (λ p. p < length c.args.included.now) _ _ (subst (All (λ p. p < length c.args.included.now)) c.in-Some.ensures.steps c.loop-ix.invariant.below)

pub loop-ix-preserved : goal.loop-ix-preserved
loop-ix-preserved g c =
    let lacks = sym c.contains.ensures ∙ c.if-contains.false in
    record {
      same = sym (filter_skips (has c.args.included.now) _ _ lacks) ∙ (ap (filter (has c.args.included.now)) (sym c.in-Some.ensures.steps) ∙ c.loop-ix.invariant.same);
      below = All-tail (λ p. p < length c.args.included.now) _ _ (subst (All (λ p. p < length c.args.included.now)) c.in-Some.ensures.steps c.loop-ix.invariant.below);
    }
