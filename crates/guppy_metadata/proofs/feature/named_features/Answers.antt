use Rattle.std.proofs.Common.{arith}
use Rattle.std.proofs.lemmas.List.{take_all}
use Rattle.json.specs.Value.{value_view, members_view}
use Rattle.guppy_metadata.specs.Feature.{IsNamedFeature}
use Rattle.guppy_metadata.proofs.Features.{named_more, lists_more, object_is, features_refused}
use Rattle.guppy_metadata.proofs.Refused.{failed}
use Rattle.guppy_metadata.proofs.feature.named_features.Goals as goal

pub loop-member-preserved : goal.loop-member-preserved
loop-member-preserved c =
    let m = c.member-item.result in
    let told = c.in_ok-features.ensures in
    let this : IsNamedFeature (m.0.now, value_view m.1) (c.in_ok-from_str.field-0, c.in_ok-features.features) = record { name = c.in_ok-from_str.ensures.ok; texts = told.0; texts_are = told.1; switches_on = told.2 } in (
      lists_more c.deref-member-items.result.now c.loop-member.member-index m _ c.loop-member-test.true c.member-item.is c.loop-member.invariant.0 (told.0, told.1),
      rw c.in_ok-insert.ensures.entries (named_more c.deref-member-items.result.now c.loop-member.member-index m _ c.loop-member.named.entries (c.in_ok-from_str.field-0, c.in_ok-features.features) c.loop-member-test.true c.member-item.is c.loop-member.invariant.1 this),
    )

pub returns-in_err-features : goal.returns-in_err-features
returns-in_err-features c =
    failed _ _ _ _ c.from_residual-in_err-features.ensures (λ e is.
    features_refused c.args.value.now c.in-Object.members c.deref-member-items.result.now c.in-Object.is c.deref-member-items.ensures.value c.loop-member.member-index _ _ c.loop-member-test.true c.member-item.is _ e is c.in_err-features.ensures)

pub returns : goal.returns
returns c =
    let members = c.deref-member-items.result.now in
    let whole = take_all c.loop-member.member-index members (let past = c.loop-member-test.false in omega arith) in record {
      members = members_view members;
      members_are = object_is c.args.value.now c.in-Object.members members c.in-Object.is c.deref-member-items.ensures.value;
      lists = rw whole at c.loop-member.invariant.0;
      features_are = rw whole at c.loop-member.invariant.1;
    }
