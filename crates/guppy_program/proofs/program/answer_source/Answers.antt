use Rattle.std.proofs.Common.{rules}
use Rattle.std.proofs.lemmas.Result.{IfErr-weaker}
use Rattle.guppy_command.specs.Shown.{asked_shown}
use Rattle.guppy_program.proofs.Runs.{source_fault}
use Rattle.guppy_program.proofs.program.answer_source.Goals as goal

pub returns-clause-err : goal.returns-clause-err
returns-clause-err g c = IfErr-weaker c.answer_input.result _ _ (λ fault is.
    source_fault g.F.Format.format (asked_shown c.args.asked.now) _ _ fault (g.F.Fault.ProgramFault.cause fault) (record {
      input = c.in_ok-input.input.items;
      at_end = search rules;
      all = search rules;
      holds = rw c.as_slice.ensures.value at is;
    })) c.answer_input.ensures.err
