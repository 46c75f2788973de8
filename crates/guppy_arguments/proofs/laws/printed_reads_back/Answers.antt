use Rattle.guppy_arguments.proofs.Meanings.{text_means}
use Rattle.guppy_arguments.proofs.laws.printed_reads_back.Goals as goal

pub returns : goal.returns
returns c = text_means
