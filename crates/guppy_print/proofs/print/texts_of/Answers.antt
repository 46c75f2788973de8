use Rattle.std.proofs.Common.{◌∙◌, ap, sym, ℕ, List, Bor, map, take}
use Rattle.std.proofs.lemmas.List.{map_push}
use Rattle.guppy_data.specs.declared.texts.package_id.PackageId.{PackageId}
use Rattle.guppy_print.specs.Printed.{called}
use Rattle.guppy_print.proofs.GrowingLines.{viewed_more}
use Rattle.guppy_print.proofs.print.texts_of.Goals as goal

pub loop-id-preserved : goal.loop-id-preserved
loop-id-preserved g c packages are =
    let call = called c.args.options.now (g.F.Format.format.text packages) in
    let ids = map (λ (id : Bor PackageId). id.now) (take c.loop-id.id-index c.args.ids.now) in
    let text = c.text_of.ensures packages are in
    ap (map (λ (t : Bor (List ℕ)). t.now)) c.in_ok-push.ensures.items
    ∙ map_push (λ (t : Bor (List ℕ)). t.now) c.loop-id.texts.items c.text_of.result
    ∙ rw (text, c.loop-id.invariant packages are) (sym (ap (map call) (viewed_more (λ (id : Bor PackageId). id.now) c.args.ids.now c.loop-id.id-index c.id-item.result c.loop-id-test.true c.id-item.is) ∙ map_push call ids c.id-item.result.now))
