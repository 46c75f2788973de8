use Rattle.std.proofs.Common.{rules, arith}
use Rattle.std.proofs.lemmas.Result.{err_from_is_err_and}
use Rattle.guppy_lines.proofs.RecordLines.{has_passed_none, has_passed_more, statements_passed-more, bad_line}
use Rattle.guppy_lines.proofs.input.records_of.Goals as goal

pub loop-line-init : goal.loop-line-init
loop-line-init c = record { count = search rules; lines_are = has_passed_none _; records_are = c.in_ok-records.ensures }

pub returns-in_err-add_line-clause-err : goal.returns-in_err-add_line-clause-err
returns-in_err-add_line-clause-err c =
    let passed_on = err_from_is_err_and c.from_residual-in_err-add_line.result c.from_residual-in_err-add_line.ensures.1 in
    rw (passed_on.1, passed_on.2) (bad_line _ _ _ c.in-Some.after.now _ _ c.loop-line.invariant.lines_are c.in-Some.ensures.0 c.in_err-add_line.ensures.err)

pub loop-line-preserved : goal.loop-line-preserved
loop-line-preserved c = record {
  count = omega (arith, c.in-Some.ensures.1);
  lines_are = has_passed_more _ _ _ c.in-Some.after.now _ c.loop-line.invariant.lines_are c.in-Some.ensures.0 c.in_ok-add_line.ensures.good;
  records_are = rw (statements_passed-more c.args.text.now c.loop-line.rest.now c.in-Some.line.now c.in-Some.after.now c.loop-line.passed c.loop-line.invariant.lines_are c.in-Some.ensures.0) (c.in_ok-add_line.ensures.added _ c.loop-line.invariant.records_are);
}
