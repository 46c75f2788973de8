use Rattle.std.proofs.Common.{◌∙◌, ap, sym, map, take}
use Rattle.guppy_command.specs.Printed.{line_end, lines_of}
use Rattle.guppy_print.specs.Printed.{called, link_text}
use Rattle.guppy_print.specs.Shown.{link_shown}
use Rattle.guppy_print.proofs.GrowingLines.{lines_more, viewed_more}
use Rattle.guppy_print.proofs.print.lines_of_links.Goals as goal

pub loop-link-preserved : goal.loop-link-preserved
loop-link-preserved g c packages are =
    let call = called c.args.options.now (g.F.Format.format.text packages) in
    let end = line_end c.args.options.now in
    let print = link_text call in
    let here = c.link-item.result in
    let shown = map link_shown (take c.loop-link.link-index c.args.links.now) in
    c.in_ok-push_pair.ensures
    ∙ rw (c.line_end.ensures, c.text_of-from.ensures packages are, c.text_of-to.ensures packages are, c.loop-link.invariant packages are)
    (sym (ap (λ links. lines_of end (map print links)) (viewed_more link_shown c.args.links.now c.loop-link.link-index here c.loop-link-test.true c.link-item.is) ∙ lines_more end print shown (link_shown here)))
