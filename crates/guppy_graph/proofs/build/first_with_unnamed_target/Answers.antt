use Rattle.std.proofs.Common.{arith, sym, refl, subst, All}
use Rattle.std.proofs.lemmas.List.{take_all}
use Rattle.std.proofs.lemmas.Option.{slice_get_read}
use Rattle.guppy_graph.specs.First.{IsFirstWithout}
use Rattle.guppy_graph.specs.Targets.{AreTargetsNamed, IsNamed}
use Rattle.guppy_graph.proofs.Lists.{All-take_more, not_all}
use Rattle.guppy_graph.proofs.build.first_with_unnamed_target.Goals as goal

pub loop-position-init : goal.loop-position-init
loop-position-init c = λ k d within. absurd (omega arith)

pub returns-in-Some : goal.returns-in-Some
returns-in-Some c =
    let r = c.index-packages-position.result in
    let unnamed : IsFirstWithout IsNamed r.build_targets.items c.in-Some.target = rw c.as_slice.ensures.value at c.in-Some.ensures in
    record {
      first = record {
        item = r;
        found = slice_get_read c.args.packages.now _ c.loop-position.position r refl c.loop-position-test.true c.index-packages-position.is;
        lacks = not_all IsNamed r.build_targets.items c.in-Some.target unnamed;
        before = c.loop-position.invariant;
      };
      unnamed = unnamed;
    }

pub loop-position-preserved : goal.loop-position-preserved
loop-position-preserved c =
    All-take_more AreTargetsNamed c.args.packages.now c.loop-position.position c.index-packages-position.result c.loop-position-test.true (sym c.index-packages-position.is) c.loop-position.invariant (rw c.as_slice.ensures.value at c.in_default.ensures)

pub returns : goal.returns
returns c = subst (All AreTargetsNamed) (take_all c.loop-position.position c.args.packages.now c.loop-position-test.false) c.loop-position.invariant
