use Rattle.std.proofs.Common.{rules}
use Rattle.guppy_lines.proofs.RecordLines.{nothing_added}
use Rattle.guppy_lines.proofs.input.add_line.Goals as goal

pub returns-then-is_empty-clause-added : goal.returns-then-is_empty-clause-added
returns-then-is_empty-clause-added c = nothing_added c.args.records.now _ (search rules)
