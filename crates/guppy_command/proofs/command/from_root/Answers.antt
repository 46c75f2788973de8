use Rattle.guppy_data.proofs.Sources.{front_from_strip}
use Rattle.std.proofs.Common.{codes}
use Rattle.guppy_command.proofs.Paths.{from_root-strips, from_root-keeps}
use Rattle.guppy_command.proofs.command.from_root.Goals as goal

pub returns-in-Some : goal.returns-in-Some
returns-in-Some c = from_root-strips c.args.path.now c.in-Some.rest.now (front_from_strip (codes "./") c.args.path.now c.in-Some.rest.now c.in-Some.ensures.cases)

pub returns-in-None : goal.returns-in-None
returns-in-None c = from_root-keeps c.args.path.now c.in-None.ensures.cases
