use Rattle.std.proofs.Common.{◌∙◌, ap, sym, map, take}
use Rattle.guppy_command.specs.Printed.{line_end, lines_of}
use Rattle.guppy_print.specs.Printed.{called, walk_text}
use Rattle.guppy_print.specs.Shown.{step_shown}
use Rattle.guppy_print.proofs.GrowingLines.{lines_more, viewed_more}
use Rattle.guppy_print.proofs.print.lines_of_steps.Goals as goal

pub loop-step-preserved : goal.loop-step-preserved
loop-step-preserved g c packages are =
    let call = called c.args.options.now (g.F.Format.format.text packages) in
    let end = line_end c.args.options.now in
    let print = walk_text call in
    let here = c.step-item.result in
    let shown = map step_shown (take c.loop-step.step-index c.args.steps.now) in
    c.in_ok-push_step.ensures
    ∙ rw (c.line_end.ensures, c.text_of-called.ensures packages are, c.loop-step.invariant packages are)
    (sym (ap (λ steps. lines_of end (map print steps)) (viewed_more step_shown c.args.steps.now c.loop-step.step-index here c.loop-step-test.true c.step-item.is) ∙ lines_more end print shown (step_shown here)))
