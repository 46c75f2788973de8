use Rattle.std.proofs.Common.{◌∙◌, sym, ap, subst}
use Rattle.std.specs.Prelude.{slice_get}
use Rattle.guppy_metadata_tests.proofs.First.{IsFirst, first_of}
use Rattle.guppy_metadata_tests.proofs.callers.publish.first_to_publish.Goals as goal

pub returns-clause-first : goal.returns-clause-first
returns-clause-first c =
    let ids = c.in_ok-order.ensures.order in
    let is = c.copied.ensures ∙ c.first.ensures.value ∙ ap (λ l. slice_get l 0) c.as_slice.ensures.value in
    subst (IsFirst c.args.graph.now) (sym is) (first_of c.args.graph.now ids.order c.in_ok-order.order.items ids.is_order ids.ids_are)
