use Rattle.std.proofs.Common.{rules}
use Rattle.guppy_target.proofs.Lists.{list_any-map}
use Rattle.guppy_target.proofs.platform.Platform.has_pair.Goals as goal

pub returns : goal.returns
returns c = rw (← c.self.view_is, list_any-map) (search rules)
