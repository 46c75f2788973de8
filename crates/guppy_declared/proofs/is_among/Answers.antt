use Rattle.std.proofs.Common.{arith}
use Rattle.json.specs.Json.{string}
use Rattle.json.specs.Value.{value_view}
use Rattle.guppy_declared.proofs.Growing.{none_there}
use Rattle.guppy_declared.proofs.is_among.Goals as goal

pub returns : goal.returns
returns c = (
  λ no. absurd (cc no),
  λ there. absurd (none_there value_view c.args.items.now c.loop-item.item-index (let past = c.loop-item-test.false in omega arith) (string c.args.text.now) c.loop-item.invariant there),
)
