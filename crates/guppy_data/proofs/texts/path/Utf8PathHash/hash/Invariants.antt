use Rattle.std.proofs.Common.{◌≡◌}
use Rattle.std.specs.List.{fold, flat_map}
use Rattle.guppy_data.specs.Path.{path_hash, part_hash}
use Rattle.guppy_data.specs.Component.{parts_left}
use Rattle.guppy_data.specs.Utf8Path.{path_text}
use Rattle.guppy_data.proofs.texts.path.Utf8PathHash.hash.Given as goal

abbrev pub invariant-loop-component : goal.invariant-loop-component
invariant-loop-component g l = fold g.H.Hasher.write l.initial.state (path_hash (path_text l.self)) ≡ fold g.H.Hasher.write l.state (flat_map part_hash (parts_left l.component-iterator))
