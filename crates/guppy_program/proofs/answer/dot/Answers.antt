use Rattle.std.proofs.Common.{refl}
use Rattle.std.proofs.lemmas.Result.{err_from_is_err_and}
use Rattle.guppy_command.specs.Shown.{texts}
use Rattle.guppy_program.specs.Answer.{IsWordFault}
use Rattle.guppy_dot.specs.Dot.{drawing_shown}
use Rattle.guppy_program.proofs.Refusals.{told_memory}
use Rattle.guppy_program.proofs.answer.dot.Goals as goal

pub returns-clause-ok : goal.returns-clause-ok
returns-clause-ok g c =
    let exact = rw c.in_ok-drawing.ensures.ok at c.drawing_of.ensures.ok in
    record {
      ids = c.in_ok-ids.ids.items;
      named = c.in_ok-ids.ensures.named;
      known = c.in_ok-ids.ensures.known;
      drawn = drawing_shown c.in_ok-drawing.drawing;
      exact = rw c.deref.ensures.value at exact;
      told = refl;
    }

pub returns-in_err-ids-clause-err : goal.returns-in_err-ids-clause-err
returns-in_err-ids-clause-err g c =
    let passed_on = err_from_is_err_and c.from_residual.result c.from_residual.ensures.1 in
    rw (passed_on.1, passed_on.2) c.in_err-ids.ensures.err

pub returns-in_err-drawing-clause-err : goal.returns-in_err-drawing-clause-err
returns-in_err-drawing-clause-err g c =
    let passed_on = err_from_is_err_and c.from_residual-in_err-drawing.result c.from_residual-in_err-drawing.ensures.1 in
    rw (passed_on.1, passed_on.2) (told_memory c.drawing_of.result _
    (IsWordFault g.F.Format.format c.args.graph.now.packages (texts c.args.words.now) _)
    c.drawing_of.ensures.err c.in_err-drawing.ensures.err tt)
