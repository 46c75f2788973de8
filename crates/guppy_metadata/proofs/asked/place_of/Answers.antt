use Rattle.std.proofs.Common.{sym}
use Rattle.guppy_metadata.proofs.AskedValues.{first_found, at_place}
use Rattle.guppy_metadata.proofs.asked.place_of.Goals as goal

pub returns-then-eq : goal.returns-then-eq
returns-then-eq c = at_place c.args.names.now c.args.likely _ c.args.name.now c.if-likely-names.true (sym c.if-eq.ensures)

pub returns : goal.returns
returns c = first_found c.args.name.now c.args.names.now _ c.first_place_of.ensures
