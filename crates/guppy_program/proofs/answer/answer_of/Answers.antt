use Rattle.std.proofs.lemmas.Result.{IfErr-weaker}
use Rattle.guppy_command.specs.Shown.{asked_shown, command_shown}
use Rattle.guppy_program.specs.Answer.{IsCommandFault}
use Rattle.guppy_print.specs.Printed.{called}
use Rattle.guppy_program.specs.Builds.{places_of}
use Rattle.guppy_program.proofs.Refusals.{no_build}
use Rattle.guppy_program.proofs.answer.answer_of.Goals as goal

pub returns-in-Why-clause-err : goal.returns-in-Why-clause-err
returns-in-Why-clause-err g c =
    let format = g.F.Format.format in
    let asked = c.args.asked.now in
    let graph = c.args.graph.now in
    let call = called asked.options (format.text graph.packages) in
    let cause = g.F.Fault.ProgramFault.cause in
    IfErr-weaker c.why.result (λ fault. IsCommandFault format call (command_shown asked.command) graph fault (cause fault)) _
    (λ fault is. no_build format (places_of (asked_shown asked)) call (command_shown asked.command) graph fault (cause fault) is) (rw c.in-Why.is (c.why.ensures.err call))

pub returns-in-Built-clause-err : goal.returns-in-Built-clause-err
returns-in-Built-clause-err g c = rw c.in-Built.is c.built.ensures.err

pub returns-in-Features-clause-err : goal.returns-in-Features-clause-err
returns-in-Features-clause-err g c = rw c.in-Features.is c.features.ensures.err

pub returns-in-WhyFeature-clause-err : goal.returns-in-WhyFeature-clause-err
returns-in-WhyFeature-clause-err g c = rw c.in-WhyFeature.is c.why_on.ensures.err
