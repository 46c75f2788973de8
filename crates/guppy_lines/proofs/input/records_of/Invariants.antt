use Rattle.std.proofs.Common.{◌+◌, ◌≤◌, length}
use Rattle.guppy_lines.specs.Records.{AreRecordsOf}
use Rattle.guppy_lines.proofs.RecordLines.{HasPassed, statements_passed}
use Rattle.guppy_lines.proofs.input.records_of.Given as goal

abbrev pub invariant-loop-line : goal.invariant-loop-line
invariant-loop-line l = record {
  count : l.passed + length l.rest ≤ length l.text;
  lines_are : HasPassed l.text l.rest l.passed;
  records_are : AreRecordsOf (statements_passed l.text l.passed) l.records.packages.items l.records.links.items l.records.workspace;
}

abbrev pub decreases-loop-line : goal.decreases-loop-line
decreases-loop-line l = length l.rest
