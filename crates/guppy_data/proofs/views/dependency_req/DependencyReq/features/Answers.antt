use Rattle.std.specs.BTreeMap.{keys}
use Rattle.std.specs.Ordering.{nat_cmp}
use Rattle.std.specs.Cmp.Lexicographic.{slice_cmp}
use Rattle.std.specs.String.{string_bytes}
use Rattle.guppy_data.specs.DependencyReq.{seen_req}
use Rattle.guppy_data.proofs.AscendingLists.{IsStrictlySortedBy-map}
use Rattle.guppy_data.proofs.views.dependency_req.DependencyReq.features.Goals as goal

pub returns-clause-required_ascend : goal.returns-clause-required_ascend
returns-clause-required_ascend c =
    IsStrictlySortedBy-map (slice_cmp nat_cmp) string_bytes (keys (seen_req c.args.self).required.feature_targets) c.keys-required.ensures.ordered

pub returns-clause-optional_ascend : goal.returns-clause-optional_ascend
returns-clause-optional_ascend c =
    IsStrictlySortedBy-map (slice_cmp nat_cmp) string_bytes (keys (seen_req c.args.self).optional.feature_targets) c.keys-optional.ensures.ordered
