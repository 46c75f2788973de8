use Rattle.guppy_command.proofs.ReadArguments.{misread_in_file}
use Rattle.guppy_command.proofs.laws.asked_or_misread.Goals as goal

pub returns : goal.returns
returns g c = misread_in_file (g.D.Files.has c.args.files.now)
