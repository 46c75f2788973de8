use Rattle.std.proofs.Common.{◌≡◌, length, None}
use Rattle.guppy_data.specs.Component.{parts_left}
use Rattle.guppy_data.proofs.texts.component.ComponentsIterator.next.Given as goal

abbrev pub invariant-loop-self : goal.invariant-loop-self
invariant-loop-self l = (l.self.lead ≡ None) × (parts_left l.fn.self ≡ parts_left l.self)

abbrev pub decreases-loop-self : goal.decreases-loop-self
decreases-loop-self l = length l.self.rest.now
