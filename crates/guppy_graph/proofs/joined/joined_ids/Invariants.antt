use Rattle.std.proofs.Common.{◌≡◌, take}
use Rattle.std.specs.List.{flat_map}
use Rattle.std.specs.String.{string_bytes}
use Rattle.guppy_graph.proofs.joined.joined_ids.Given as goal

abbrev pub invariant-loop-package : goal.invariant-loop-package
invariant-loop-package l = string_bytes l.joined ≡ flat_map (λ r. r.id) (take l.package-index l.packages)
