use Rattle.guppy_metadata.proofs.Misread.{misread}
use Rattle.guppy_metadata.proofs.records.read_records.Goals as goal

pub returns-clause-refused : goal.returns-clause-refused
returns-clause-refused g c =
    let told = c.read_from.ensures in
    misread c.args.details c.args.json.now c.read_from.result told.tells_no_json told.tells_unresolved told.refused
