use Rattle.guppy_target.proofs.Evaluation.{reads_one}
use Rattle.guppy_target.proofs.laws.reads_in_one_way.Goals as goal

pub returns : goal.returns
returns c = reads_one
