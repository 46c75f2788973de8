use Rattle.std.proofs.lemmas.Result.{IfOk-weaker, err_from_is_err_and}
use Rattle.guppy_affected.specs.Folders.{given_in}
use Rattle.guppy_program.specs.Answer.{IsWordFault}
use Rattle.guppy_program.proofs.GivenFolders.{words_in}
use Rattle.guppy_program.proofs.Refusals.{passed_memory, passed_ok}
use Rattle.guppy_program.proofs.answer.tested_also.Goals as goal

pub returns-clause-ok : goal.returns-clause-ok
returns-clause-ok g c = passed_ok c.tested.result c.passed_on.result _
    (IfOk-weaker c.tested.result _ _ (λ answer exact. record {
      given = given_in c.in_ok-given.given.items;
      named = c.in_ok-given.ensures.given;
      exact = rw c.as_slice.ensures.value at exact;
    }) c.tested.ensures.ok) c.passed_on.ensures.ok

pub returns-in_err-given-clause-err : goal.returns-in_err-given-clause-err
returns-in_err-given-clause-err g c =
    let passed_on = err_from_is_err_and c.from_residual.result c.from_residual.ensures.1 in
    rw (passed_on.1, passed_on.2) c.in_err-given.ensures.err

pub returns-clause-err : goal.returns-clause-err
returns-clause-err g c = passed_memory c.tested.result c.passed_on.result _
    (IsWordFault g.F.Format.format c.args.graph.now.packages (words_in c.args.also.now))
    c.tested.ensures.err c.passed_on.ensures.err (λ fault. tt)
