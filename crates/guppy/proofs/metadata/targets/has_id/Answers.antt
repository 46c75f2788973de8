use Rattle.guppy.proofs.EqualTargetIds.{equal-tells}
use Rattle.guppy.proofs.metadata.targets.has_id.Goals as goal

pub returns : goal.returns
returns c = rw (← c.new.ensures) (equal-tells _ _ c.eq.result c.eq.ensures)
