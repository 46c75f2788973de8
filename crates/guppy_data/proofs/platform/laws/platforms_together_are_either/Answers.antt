use Rattle.guppy_data.proofs.Statuses.{status_value-append}
use Rattle.guppy_data.proofs.platform.laws.platforms_together_are_either.Goals as goal

pub returns : goal.returns
returns g c = λ eval. status_value-append (g.E.TargetEval.answer eval)
