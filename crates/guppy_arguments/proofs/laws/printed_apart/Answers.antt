use Rattle.guppy_arguments.proofs.Meanings.{text_apart}
use Rattle.guppy_arguments.proofs.laws.printed_apart.Goals as goal

pub returns : goal.returns
returns c = text_apart
