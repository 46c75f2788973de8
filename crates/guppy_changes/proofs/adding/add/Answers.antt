use Rattle.guppy_changes.specs.Shown.{shown}
use Rattle.guppy_changes.proofs.Steps.{adds_shown}
use Rattle.guppy_changes.proofs.adding.add.Goals as goal

pub returns : goal.returns
returns c = adds_shown shown c.args.marks.now.items c.push.new.self.items c.args.mark c.in_ok-push.ensures.items
