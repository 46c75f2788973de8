use Rattle.std.proofs.Common.{◌∙◌, ap, ℕ, List, Bor, map}
use Rattle.std.proofs.lemmas.Result.{IfOk-weaker}
use Rattle.std.specs.Ordering.{nat_cmp}
use Rattle.std.specs.Cmp.Lexicographic.{slice_cmp}
use Rattle.std.proofs.lemmas.Slice.Eq.{bytes_eq-Decides}
use Rattle.guppy_command.specs.Printed.{lines_of}
use Rattle.guppy_print.proofs.PrintedTexts.{kept_ids, IsStrictlySortedBy-map}
use Rattle.guppy_print.proofs.print.sorted_lines.Goals as goal

pub returns : goal.returns
returns c = IfOk-weaker c.lines_of.result _ _ (λ lines printed. record {
  sorted = map (λ (r : Bor (List ℕ)). r.now) c.new-sorted.result;
  ascending = IsStrictlySortedBy-map (λ (r : Bor (List ℕ)). r.now) (slice_cmp nat_cmp) c.new-sorted.result c.new-sorted.ensures.sorted;
  same = kept_ids _ (λ x y same. (bytes_eq-Decides x.now y.now).0 same) _ _ c.new-sorted.ensures.kept;
  printed = printed ∙ ap (λ (texts : List (Bor (List ℕ))). lines_of c.args.end.now (map (λ r. r.now) texts)) c.as_slice.ensures.items;
}) c.lines_of.ensures
