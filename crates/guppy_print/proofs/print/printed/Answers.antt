use Rattle.std.proofs.Common.{◌∙◌, ap, ℕ, List, Bor, Global, map}
use Rattle.std.specs.Prelude.{Vec}
use Rattle.std.proofs.lemmas.Result.{IfOk-weaker}
use Rattle.guppy_command.specs.Printed.{line_end, lines_of}
use Rattle.guppy_print.specs.Objects.{array_of, needs_object, packages_array}
use Rattle.guppy_print.specs.Printed.{called, packages_text}
use Rattle.guppy_print.proofs.PrintedTexts.{lines_told}
use Rattle.guppy_print.proofs.print.printed.Goals as goal

pub returns-in-Lines-format : goal.returns-in-Lines-format
returns-in-Lines-format g c =
    let packages = c.args.graph.now.packages in
    let text = packages_text (called c.args.options.now (g.F.Format.format.text packages)) in
    let shown = λ (rows : List (Vec (Bor (List ℕ)) Global)). map (λ row. map (λ id. id.now) row.items) rows in
    let lines = λ (rows : List (Vec (Bor (List ℕ)) Global)). lines_of (line_end c.args.options.now) (map text (shown rows)) in
    let rows = c.in-Rows.rows.items in
    rw c.in-Rows.is (IfOk-weaker c.lines_of_rows.result _ _ (λ bytes told. told ∙ ap lines c.as_slice-in-Lines-format.ensures.value
    ∙ lines_told g.F.Format.format c.args.options.now packages c.args.options.now.format c.in-Lines-format.is (array_of (packages_array packages) (shown rows)) (map text (shown rows)))
    (c.lines_of_rows.ensures packages c.requires.names))

pub returns-in-Lines-format-2 : goal.returns-in-Lines-format-2
returns-in-Lines-format-2 g c =
    let packages = c.args.graph.now.packages in
    let text = packages_text (called c.args.options.now (g.F.Format.format.text packages)) in
    let shown = λ (rows : List (Vec (Bor (List ℕ)) Global)). map (λ row. map (λ id. id.now) row.items) rows in
    let lines = λ (rows : List (Vec (Bor (List ℕ)) Global)). lines_of (line_end c.args.options.now) (map text (shown rows)) in
    let rows = c.in-Needs.rows.items in
    rw c.in-Needs.is (IfOk-weaker c.lines_of_rows-in-Lines-format-2.result _ _ (λ bytes told. told ∙ ap lines c.as_slice-in-Lines-format-2.ensures.value
    ∙ lines_told g.F.Format.format c.args.options.now packages c.args.options.now.format c.in-Lines-format-2.is (array_of (needs_object packages) (shown rows)) (map text (shown rows)))
    (c.lines_of_rows-in-Lines-format-2.ensures packages c.requires.names))
