use Rattle.std.proofs.Common.{string_bytes, subst}
use Rattle.std.specs.Prelude.{Option}
use Rattle.std.proofs.lemmas.Result.{IfOk-weaker, IfErr-weaker, err_from_is_err_and}
use Rattle.guppy_graph.specs.Graph.{GraphData}
use Rattle.guppy_command.specs.Shown.{asked_shown}
use Rattle.guppy_program.specs.Run.{IsAnswerOf}
use Rattle.guppy_program.proofs.Runs.{before_fault, command_fault, loaded_distinct}
use Rattle.guppy_program.proofs.program.answer_input.Goals as goal

pub answer_text-text-requires-clause-distinct : goal.answer_text-text-requires-clause-distinct
answer_text-text-requires-clause-distinct g c = loaded_distinct g.F.Format.format (asked_shown c.args.asked.now) c.args.input.now c.in_ok-graph.graph c.in_ok-graph.ensures.ok

pub returns-clause-ok : goal.returns-clause-ok
returns-clause-ok g c = IfOk-weaker c.answer_text-text.result _ _
    (λ text is. (
      c.in_ok-graph.graph,
      c.in_ok-graph.ensures.ok,
      (
        c.in_ok-before.before,
        c.in_ok-before.ensures.ok,
        subst (λ (before : Option GraphData). IsAnswerOf g.F.Format.format (asked_shown c.args.asked.now) before c.in_ok-graph.graph (string_bytes text)) c.as_ref.ensures.value is,
      ),
    )) c.answer_text-text.ensures.ok

pub returns-clause-err : goal.returns-clause-err
returns-clause-err g c = IfErr-weaker c.answer_text-text.result _ _
    (λ fault is. command_fault g.F.Format.format (asked_shown c.args.asked.now) c.args.input.now c.in_ok-graph.graph c.in_ok-graph.ensures.ok fault (g.F.Fault.ProgramFault.cause fault) is) c.answer_text-text.ensures.err

pub returns-in_err-before-clause-err : goal.returns-in_err-before-clause-err
returns-in_err-before-clause-err g c =
    let passed_on = err_from_is_err_and c.from_residual-in_err-before.result c.from_residual-in_err-before.ensures.1 in
    rw (passed_on.1, passed_on.2) (before_fault g.F.Format.format (asked_shown c.args.asked.now) c.args.input.now c.in_err-before.field-0.0 (g.F.Fault.ProgramFault.cause c.in_err-before.field-0.0) c.in_err-before.ensures.err)
