use Rattle.std.proofs.Common.{◌∙◌, ap, sym, refl, ℕ, List, ◌++◌, Bor, codes, map, take}
use Rattle.std.specs.List.{flat_map}
use Rattle.std.proofs.lemmas.List.Folds.{flat_map-map}
use Rattle.guppy_built.specs.Rows.{row_of}
use Rattle.guppy_command.specs.Printed.{line_end, lines_of}
use Rattle.guppy_print.specs.BuildLines.{row_text}
use Rattle.guppy_print.specs.Printed.{called}
use Rattle.guppy_print.proofs.GrowingLines.{lines_more, row_line, viewed_more}
use Rattle.guppy_print.proofs.print_builds.lines_of_built.Goals as goal

pub loop-row-preserved : goal.loop-row-preserved
unfolding lib.Utf8.encode
loop-row-preserved g c packages are =
    let call = called c.args.options.now (g.F.Format.format.text packages) in
    let end = line_end c.args.options.now in
    let print = row_text call in
    let here = c.row-item.result in
    let shown = map row_of (take c.loop-row.row-index c.args.rows.now) in
    let before = lines_of end (map print shown) in
    let words = here.features.items in
    let spaced = λ (word : Bor (List ℕ)). codes " " ++ word.now in
    c.in_ok-push_str-3.ensures.bytes
    ∙ rw c.line_end.ensures (ap (λ text. text ++ end) ((rw c.as_slice.ensures.value at c.in_ok-push_words.ensures)
    ∙ ap (λ text. text ++ flat_map spaced words) (c.in_ok-push_str-2.ensures.bytes
    ∙ ap (λ text. text ++ here.platform.now) (c.in_ok-push.ensures.bytes
    ∙ ap (λ text. text ++ codes " ") (c.in_ok-push_str.ensures.bytes
    ∙ rw (c.text_of.ensures packages are, c.loop-row.invariant packages are) refl)))))
    ∙ row_line before (call here.id.now) (codes " ") here.platform.now (flat_map spaced words) end
    ∙ ap (λ rest. before ++ ((call here.id.now ++ ((codes " " ++ here.platform.now) ++ rest)) ++ end)) (sym (flat_map-map (λ (y : List ℕ). codes " " ++ y) (λ (word : Bor (List ℕ)). word.now) words))
    ∙ sym (ap (λ rows. lines_of end (map print rows)) (viewed_more row_of c.args.rows.now c.loop-row.row-index here c.loop-row-test.true c.row-item.is) ∙ lines_more end print shown (row_of here))
