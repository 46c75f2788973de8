use Rattle.std.proofs.Common.{subst}
use Rattle.std.specs.Prelude.{Result, Ok, Err, IfOk, IfErr}
use Rattle.guppy_process.specs.Process.{EndsIn}
use Rattle.guppy_program.proofs.process.run_process.Goals as goal

ok_along : {A B : Type 0} (r : Result A B) (P Q : A → Type 0) → ((a : A) → P a → Q a) → IfOk r P → IfOk r Q
ok_along (Ok a) P Q f h = f a h
ok_along (Err b) P Q f h = h

err_along : {A B : Type 0} (r : Result A B) (P Q : B → Type 0) → ((b : B) → P b → Q b) → IfErr r P → IfErr r Q
err_along (Ok a) P Q f h = h
err_along (Err b) P Q f h = f b h

pub returns-clause-ran : goal.returns-clause-ran
returns-clause-ran g c = ok_along c.args.args _ _ (λ list run. (_, run, c.report.ensures)) c.outcome_of-outcome.ensures.ran

pub returns-clause-no_arguments : goal.returns-clause-no_arguments
returns-clause-no_arguments g c =
    err_along c.args.args _ _ (λ fault h. (h.0, h.1, subst (λ outcome. EndsIn g.F.Fault.ProgramFault.ending g.F.Fault.Display.output g.E.Sink.written c.args.errors.now c.report.new.errors outcome c.report.result) h.2 c.report.ensures)) c.outcome_of-outcome.ensures.no_arguments
