use Rattle.std.proofs.Common.{◌≡◌, ◌++◌, string_bytes, take}
use Rattle.std.specs.List.{flat_map}
use Rattle.guppy_wire.specs.Link.{link_text}
use Rattle.guppy_wire.proofs.links.LinkTexts.push.Given as goal

abbrev pub invariant-loop-link : goal.invariant-loop-link
invariant-loop-link l = (l.self.count ≡ l.initial.self.count)
    × (string_bytes l.self.texts ≡ string_bytes l.initial.self.texts ++ flat_map link_text (take l.link-index l.links))
