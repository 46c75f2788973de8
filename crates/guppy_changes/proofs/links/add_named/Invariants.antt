use Rattle.std.proofs.Common.{List}
use Rattle.std.specs.String.{string_bytes}
use Rattle.std.specs.declared.string.String.{String}
use Rattle.std.specs.declared.alloc.Global.{Global}
use Rattle.guppy_data.specs.declared.platform.status.PlatformStatusImpl.{PlatformStatusImpl}
use Rattle.guppy_data.specs.Platform.{recorded_status}
use Rattle.guppy_changes.specs.Adding.{Adds, OfSome}
use Rattle.guppy_changes.specs.Marks.{asks_for}
use Rattle.guppy_changes.specs.Shown.{Marked, IfSomewhere, all_shown, need_shown}
use Rattle.guppy_changes.proofs.links.add_named.Given as goal

abbrev pub invariant-loop-name : goal.invariant-loop-name
invariant-loop-name l =
    let R = λ (e : String Global × PlatformStatusImpl). IfSomewhere (recorded_status e.1) (l.id, asks_for (need_shown l.need) (string_bytes e.0)) in
    (new : List Marked) → Adds (OfSome l.name-iterator R) (all_shown l.marks.items) new
    → Adds (OfSome l.part.feature_targets.entries R) (all_shown l.initial.marks.items) new
