use Rattle.std.proofs.Common.{◌≡◌, length}
use Rattle.guppy_data.specs.Path.{components}
use Rattle.guppy_data.specs.Component.{parts_left}
use Rattle.guppy_data.specs.Utf8Path.{path_text}
use Rattle.guppy_metadata.specs.Path.{parted}
use Rattle.guppy_metadata.proofs.path.parted.Given as goal

abbrev pub invariant-loop-first : goal.invariant-loop-first
invariant-loop-first l = parted (components (path_text l.path)) (components (path_text l.other))
    ≡ parted (parts_left l.behind) (parts_left l.other_behind)

abbrev pub decreases-loop-first : goal.decreases-loop-first
decreases-loop-first l = length (parts_left l.behind)
