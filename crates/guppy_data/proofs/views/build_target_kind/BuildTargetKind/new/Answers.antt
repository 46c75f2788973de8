use Rattle.std.specs.Ordering.{nat_cmp}
use Rattle.std.specs.Cmp.Lexicographic.{slice_cmp}
use Rattle.std.specs.String.{string_bytes}
use Rattle.guppy_data.proofs.AscendingLists.{IsStrictlySortedBy-map}
use Rattle.guppy_data.proofs.views.build_target_kind.BuildTargetKind.new.Goals as goal

pub returns-in-LibraryOrExample-clause-ascending :
    goal.returns-in-LibraryOrExample-clause-ascending
returns-in-LibraryOrExample-clause-ascending c =
    IsStrictlySortedBy-map (slice_cmp nat_cmp) string_bytes c.as_slice.result.now (rw c.as_slice.ensures.items c.as_slice.ensures.sorted)
