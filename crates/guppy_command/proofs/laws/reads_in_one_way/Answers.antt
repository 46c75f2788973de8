use Rattle.guppy_command.proofs.ReadArguments.{reads_alike}
use Rattle.guppy_command.proofs.laws.reads_in_one_way.Goals as goal

pub returns : goal.returns
returns c = reads_alike
