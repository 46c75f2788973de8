use Rattle.std.proofs.Common.{refl}
use Rattle.guppy_cargo.proofs.input.JsonFormat.cycle.Goals as goal

pub returns-clause-told : goal.returns-clause-told
returns-clause-told c = (c.args.round, refl, refl)
