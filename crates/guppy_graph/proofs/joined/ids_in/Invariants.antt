use Rattle.std.proofs.Common.{◌≡◌, map, take, drop, Some}
use Rattle.std.specs.List.{flat_map}
use Rattle.std.specs.Option.{option_copied}
use denote.Shadow.{shadow}
use denote.Text.{Utf8}
use Rattle.guppy_graph.proofs.joined.ids_in.Given as goal

abbrev pub invariant-loop-package : goal.invariant-loop-package
invariant-loop-package l =
    record { taken : map option_copied l.ids.items ≡ map (λ r. Some r.id) (take l.package-index l.packages); left : l.rest ≡ flat_map (λ r. r.id) (drop l.package-index l.packages); text : shadow (Utf8 l.rest) }
