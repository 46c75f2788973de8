use Rattle.std.proofs.Common.{arith, ◌≡◌, ◌∙◌, sym, refl, subst, All, true, false}
use Rattle.std.proofs.lemmas.List.{take_all}
use Rattle.std.proofs.lemmas.Option.{slice_get_read}
use Rattle.guppy_graph.specs.Targets.{IsNamed}
use Rattle.guppy_graph.proofs.Lists.{All-take_more}
use Rattle.guppy_graph.proofs.build.first_unnamed.Goals as goal

pub loop-place-init : goal.loop-place-init
loop-place-init c = λ k d within. absurd (omega arith)

pub returns-then-not-is_named : goal.returns-then-not-is_named
returns-then-not-is_named c = record {
  item = c.index-targets-place.result;
  found = slice_get_read c.args.targets.now _ c.loop-place.place c.index-targets-place.result refl c.loop-place-test.true c.index-targets-place.is;
  lacks = λ named. absurd (let e : true ≡ false = sym (c.is_named.ensures.1 named) ∙ c.if-not-is_named.true in cc);
  before = c.loop-place.invariant;
}

pub loop-place-preserved : goal.loop-place-preserved
loop-place-preserved c =
    All-take_more IsNamed c.args.targets.now c.loop-place.place c.index-targets-place.result c.loop-place-test.true (sym c.index-targets-place.is) c.loop-place.invariant (c.is_named.ensures.0 c.if-not-is_named.false)

pub returns : goal.returns
returns c = subst (All IsNamed) (take_all c.loop-place.place c.args.targets.now c.loop-place-test.false) c.loop-place.invariant
