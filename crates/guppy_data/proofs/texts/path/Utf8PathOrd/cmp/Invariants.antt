use Rattle.std.proofs.Common.{◌≡◌, length}
use Rattle.std.specs.Cmp.Lexicographic.{slice_cmp}
use Rattle.guppy_data.specs.Path.{path_cmp, part_cmp}
use Rattle.guppy_data.specs.Component.{parts_left}
use Rattle.guppy_data.specs.Utf8Path.{path_text}
use Rattle.guppy_data.proofs.texts.path.Utf8PathOrd.cmp.Given as goal

abbrev pub invariant-loop-component : goal.invariant-loop-component
invariant-loop-component l = path_cmp (path_text l.self) (path_text l.other) ≡ slice_cmp part_cmp (parts_left l.own) (parts_left l.others)

abbrev pub decreases-loop-component : goal.decreases-loop-component
decreases-loop-component l = length (parts_left l.own)
