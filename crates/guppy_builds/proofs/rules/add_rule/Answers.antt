use Rattle.std.proofs.Common.{None}
use Rattle.guppy_features.proofs.Adding.{adds_clause}
use Rattle.guppy_builds.proofs.rules.add_rule.Goals as goal

pub returns : goal.returns
returns c = rw c.in_ok-push.ensures.items (adds_clause c.args.body None c.args.head c.args.rules.now.items)
