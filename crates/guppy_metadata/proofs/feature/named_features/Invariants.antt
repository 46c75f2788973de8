use Rattle.std.proofs.Common.{take}
use Rattle.std.specs.List.{AllZip}
use Rattle.json.specs.Value.{members_view}
use Rattle.guppy_metadata.specs.Feature.{IsNamedFeature, AreListsOfTexts, each_once}
use Rattle.guppy_metadata.proofs.feature.named_features.Given as goal

abbrev pub invariant-loop-member : goal.invariant-loop-member
invariant-loop-member l =
    let seen = members_view (take l.member-index l.member-items) in
    AreListsOfTexts seen × AllZip IsNamedFeature (each_once seen) l.named.entries
