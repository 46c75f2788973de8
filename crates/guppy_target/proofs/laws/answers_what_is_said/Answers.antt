use Rattle.guppy_target.proofs.Evaluation.{answered}
use Rattle.guppy_target.proofs.laws.answers_what_is_said.Goals as goal

pub returns : goal.returns
returns c = answered
