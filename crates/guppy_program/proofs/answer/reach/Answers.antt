use Rattle.std.proofs.lemmas.Result.{IfOk-weaker, err_from_is_err_and}
use Rattle.guppy_command.specs.Shown.{texts}
use Rattle.guppy_program.specs.Answer.{IsWordFault}
use Rattle.guppy_program.proofs.Refusals.{passed_memory, passed_ok}
use Rattle.guppy_program.proofs.answer.reach.Goals as goal

pub returns-clause-ok : goal.returns-clause-ok
returns-clause-ok g c = passed_ok c.reach_from.result c.passed_on.result _
    (IfOk-weaker c.reach_from.result _ _ (λ answer exact. record {
      ids = c.in_ok-ids.ids.items;
      named = c.in_ok-ids.ensures.named;
      known = c.in_ok-ids.ensures.known;
      exact = rw c.deref.ensures.value at exact;
    }) c.reach_from.ensures.ok) c.passed_on.ensures.ok

pub returns-in_err-ids-clause-err : goal.returns-in_err-ids-clause-err
returns-in_err-ids-clause-err g c =
    let passed_on = err_from_is_err_and c.from_residual.result c.from_residual.ensures.1 in
    rw (passed_on.1, passed_on.2) c.in_err-ids.ensures.err

pub returns-clause-err : goal.returns-clause-err
returns-clause-err g c = passed_memory c.reach_from.result c.passed_on.result _
    (IsWordFault g.F.Format.format c.args.graph.now.packages (texts c.args.words.now))
    c.reach_from.ensures.err c.passed_on.ensures.err (λ fault. tt)
