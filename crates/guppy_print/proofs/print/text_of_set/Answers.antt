use Rattle.std.proofs.Common.{◌∙◌, refl, map}
use Rattle.std.proofs.lemmas.Result.{IfOk-weaker}
use Rattle.guppy_print.proofs.print.text_of_set.Goals as goal

pub returns-in_ok-sorted-in-Json : goal.returns-in_ok-sorted-in-Json
returns-in_ok-sorted-in-Json g c = rw c.in-Json.is (IfOk-weaker c.line_of_array.result _ _ (λ text told. record {
  sorted = map (λ id. id.now) c.in_ok-sorted-in-Json.sorted;
  ascending = c.in_ok-sorted-in-Json.ensures.ascending;
  same = c.in_ok-sorted-in-Json.ensures.same;
  printed = told ∙ rw (c.line_end-in-Json.ensures, c.as_slice-in-Json.ensures.items) refl;
}) c.line_of_array.ensures)
