use Rattle.guppy_metadata.proofs.Misread.{misread}
use Rattle.guppy_metadata.proofs.records.records_with.Goals as goal

pub returns-clause-refused : goal.returns-clause-refused
returns-clause-refused c =
    let told = c.records_from.ensures in
    misread c.args.details c.args.json.now c.records_from.result told.tells_no_json told.tells_unresolved told.refused
