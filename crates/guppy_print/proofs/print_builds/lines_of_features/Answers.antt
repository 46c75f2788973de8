use Rattle.std.proofs.Common.{◌∙◌, ap, sym, refl, ℕ, List, ◌++◌, Bor, codes, map, take}
use Rattle.std.specs.List.{flat_map}
use Rattle.std.proofs.lemmas.List.Folds.{flat_map-map}
use Rattle.guppy_built.specs.Features.{feature_shown}
use Rattle.guppy_command.specs.Printed.{line_end, lines_of}
use Rattle.guppy_data.specs.declared.texts.package_id.PackageId.{PackageId}
use Rattle.guppy_print.specs.BuildLines.{feature_text, side_text}
use Rattle.guppy_print.specs.Printed.{called}
use Rattle.guppy_print.proofs.GrowingLines.{lines_more, row_line, viewed_more}
use Rattle.guppy_print.proofs.print_builds.lines_of_features.Goals as goal

pub loop-row-preserved : goal.loop-row-preserved
unfolding lib.Utf8.encode
loop-row-preserved g c packages are =
    let call = called c.args.options.now (g.F.Format.format.text packages) in
    let end = line_end c.args.options.now in
    let print = feature_text call in
    let here = c.row-item.result in
    let shown = map feature_shown (take c.loop-row.row-index c.args.rows.now) in
    let before = lines_of end (map print shown) in
    let side = side_text here.side in
    let askers = c.in_ok-askers.askers.items in
    let spaced = λ (word : Bor (List ℕ)). codes " " ++ word.now in
    let behind = λ (word : List ℕ). codes " " ++ word in
    c.in_ok-push_str-3.ensures.bytes
    ∙ rw c.line_end.ensures (ap (λ text. text ++ end) ((rw c.as_slice-in-loop-row.ensures.value at c.in_ok-push_words.ensures)
    ∙ ap (λ text. text ++ flat_map spaced askers) (c.in_ok-push_str-2.ensures.bytes
    ∙ rw c.side_text.ensures (ap (λ text. text ++ side) (c.in_ok-push.ensures.bytes
    ∙ ap (λ text. text ++ codes " ") (c.in_ok-push_str.ensures.bytes
    ∙ rw (c.loop-row.invariant packages are) refl))))))
    ∙ row_line before here.name.now (codes " ") side (flat_map spaced askers) end
    ∙ ap (λ rest. before ++ ((here.name.now ++ ((codes " " ++ side) ++ rest)) ++ end))
    (sym (flat_map-map behind (λ (word : Bor (List ℕ)). word.now) askers)
    ∙ ap (λ texts. flat_map behind texts) (c.in_ok-askers.ensures packages are ∙ ap (λ (ids : List (Bor PackageId)). map call (map (λ id. id.now) ids)) c.as_slice.ensures.value))
    ∙ sym (ap (λ rows. lines_of end (map print rows)) (viewed_more feature_shown c.args.rows.now c.loop-row.row-index here c.loop-row-test.true c.row-item.is) ∙ lines_more end print shown (feature_shown here))
