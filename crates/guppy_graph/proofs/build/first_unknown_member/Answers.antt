use Rattle.std.proofs.Common.{arith, sym, refl, subst, All}
use Rattle.std.proofs.lemmas.List.{take_all}
use Rattle.std.proofs.lemmas.Option.{slice_get_read}
use Rattle.guppy_graph.specs.Ids.{IsKnown}
use Rattle.guppy_graph.proofs.Lists.{All-take_more, none_is, some_is}
use Rattle.guppy_graph.proofs.PackageIds.{unknown_of}
use Rattle.guppy_graph.proofs.build.first_unknown_member.Goals as goal

pub loop-index-init : goal.loop-index-init
loop-index-init c = λ k d within. absurd (omega arith)

pub returns-then-is_none : goal.returns-then-is_none
returns-then-is_none c = record {
  item = c.index-members-index.result;
  found = slice_get_read c.args.members.now _ c.loop-index.index c.index-members-index.result refl c.loop-index-test.true c.index-members-index.is;
  lacks = unknown_of c.args.ids.now.packages.now c.index-members-index.result (none_is c.position_of_id.result _ _ c.if-is_none.ensures c.position_of_id.ensures);
  before = c.loop-index.invariant;
}

pub loop-index-preserved : goal.loop-index-preserved
loop-index-preserved c =
    let known = some_is c.position_of_id.result _ _ c.if-is_none.ensures c.position_of_id.ensures in
    All-take_more (IsKnown c.args.ids.now.packages.now) c.args.members.now c.loop-index.index c.index-members-index.result c.loop-index-test.true (sym c.index-members-index.is) c.loop-index.invariant (known.0, known.1.0)

pub returns : goal.returns
returns c = subst (All (IsKnown c.args.ids.now.packages.now)) (take_all c.loop-index.index c.args.members.now c.loop-index-test.false) c.loop-index.invariant
