use Rattle.std.proofs.Common.{◌∙◌, arith, sym, refl, subst, All}
use Rattle.std.proofs.lemmas.List.{take_all}
use Rattle.std.proofs.lemmas.Option.{slice_get_read}
use Rattle.std.specs.Prelude.{IsSomeAnd}
use Rattle.guppy_graph.specs.Ids.{IsKnown}
use Rattle.guppy_graph.proofs.Lists.{All-take_more}
use Rattle.guppy_graph.proofs.PackageIds.{within_of}
use Rattle.guppy_built.specs.Refused.{IsOfMember, IsOfOther}
use Rattle.guppy_built.proofs.Refused.{is_member_at, no_member_at}
use Rattle.guppy_built.proofs.members.first_other.Goals as goal

pub loop-place-init : goal.loop-place-init
loop-place-init c = λ k d within. absurd (omega arith)

pub position_of-requires : goal.position_of-requires
position_of-requires c =
    subst (IsKnown c.args.graph.now.packages) (sym c.index-ids-place.is) (c.requires c.loop-place.place c.index-ids-place.result c.loop-place-test.true)

pub package_at-requires : goal.package_at-requires
package_at-requires c = within_of c.args.graph.now.packages c.index-ids-place.result c.position_of.result c.position_of.ensures

pub returns-then-not-is_member : goal.returns-then-not-is_member
returns-then-not-is_member c =
    let packages = c.args.graph.now.packages in
    let read = slice_get_read c.args.ids.now _ c.loop-place.place c.index-ids-place.result refl c.loop-place-test.true c.index-ids-place.is in
    let other = no_member_at packages c.position_of.result c.package_at.result.now c.package_at.ensures (sym c.is_member.ensures ∙ c.if-not-is_member.true) in
    (c.loop-place.invariant, subst (λ o. IsSomeAnd o (IsOfOther packages)) (sym read) (c.position_of.result, c.position_of.ensures, other))

pub loop-place-preserved : goal.loop-place-preserved
loop-place-preserved c =
    let packages = c.args.graph.now.packages in
    let is = is_member_at packages c.position_of.result c.package_at.result.now c.package_at.ensures (sym c.is_member.ensures ∙ c.if-not-is_member.false) in
    All-take_more (IsOfMember packages) c.args.ids.now c.loop-place.place c.index-ids-place.result c.loop-place-test.true (sym c.index-ids-place.is) c.loop-place.invariant (c.position_of.result, c.position_of.ensures, is)

pub returns : goal.returns
returns c = subst (All (IsOfMember c.args.graph.now.packages)) (take_all c.loop-place.place c.args.ids.now c.loop-place-test.false) c.loop-place.invariant
