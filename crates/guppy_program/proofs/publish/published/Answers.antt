use Rattle.std.proofs.Common.{◌∙◌, refl, ap, subst, ℕ, List, Bor, map, All}
use Rattle.std.specs.Prelude.{IfOk, OnOk}
use Rattle.std.proofs.lemmas.Result.{err_from_is_err_and}
use Rattle.guppy_graph.specs.FirmCycles.{HasNoFirmCycle}
use Rattle.guppy_graph.specs.Verified.{IsVerified}
use Rattle.guppy_publish.specs.Publishing.{ArePublishIds}
use Rattle.guppy_command.specs.Command.{publish_order}
use Rattle.guppy_print.specs.Answer.{package_list}
use Rattle.guppy_print.specs.Printed.{called}
use Rattle.guppy_program.specs.Publish.{IsFree}
use Rattle.guppy_program.proofs.Refusals.{told_of}
use Rattle.guppy_program.proofs.publish.published.Goals as goal
use Rattle.guppy_program.proofs.publish.published.Goals.{then-publishable+in_ok-none_hindered, else-publishable}

pub returns-in_err-ids-clause-err : goal.returns-in_err-ids-clause-err
returns-in_err-ids-clause-err g c =
    let passed_on = err_from_is_err_and c.from_residual.result c.from_residual.ensures.1 in
    let graph = c.args.graph.now in
    rw (passed_on.1, passed_on.2) (told_of g.F.Format.format (called c.args.options.now (g.F.Format.format.text graph.packages)) (publish_order c.args.publishable) graph (λ found is. is) _ _ c.in_err-ids.ensures.err)

pub returns-clause-ok : goal.returns-clause-ok
returns-clause-ok g c =
    let graph = c.args.graph.now in
    let ordered = subst (λ made. OnOk made (IsVerified graph × HasNoFirmCycle graph)) c.in_ok-ids.ensures.ok c.publish_order.ensures.verified in
    record {
      verified = ordered.0;
      acyclic = ordered.1;
      ids = map (λ (r : Bor (List ℕ)). r.now) c.in_ok-ids.ids.items;
      exact = subst (λ made. IfOk made (λ ids. ArePublishIds graph (map (λ id. id.now) ids.items))) c.in_ok-ids.ensures.ok c.publish_order.ensures.order;
      told = elim c.if-publishable.branch [
        | then-publishable+in_ok-none_hindered w ↦ rw (w.ids-is, w.if-publishable.true) (ap package_list w.keep_publishable.ensures)
        | else-publishable w ↦ rw (w.ids-is, w.if-publishable.false) refl
      ];
      free = λ asked. elim c.if-publishable.branch [
        | then-publishable+in_ok-none_hindered w ↦ subst (All (IsFree graph)) (ap (map (λ (r : Bor (List ℕ)). r.now)) w.as_slice.ensures.value ∙ w.keep_publishable.ensures) w.in_ok-none_hindered.ensures.ok
        | else-publishable w ↦ (let no = w.if-publishable.false in absurd (cc (asked, no)))
      ];
    }
