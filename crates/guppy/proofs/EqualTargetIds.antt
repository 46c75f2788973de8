-- IDs of build targets that are equal.
use Rattle.std.proofs.Common.{◌≡◌, ◌∙◌, ◌↔◌, sym, ap, subst, Bool, true, IsTrue}
use Rattle.std.specs.Ordering.{eq_by_cmp, is_eq}
use Rattle.std.proofs.lemmas.Cmp.{then_total, on_total, nat_cmp_total, nat_list_cmp_total, tied_itself}
use Rattle.std.proofs.lemmas.Map.Views.{tells_apart}
use Rattle.guppy_data.specs.BuildTargetId.{TargetId, rank_of, name_or_empty, target_id_cmp}
use Rattle.guppy_data.specs.SameTargetId.{same_id}

-- the comparison of two IDs tells whether they are the same
pub equal-tells : (a b : TargetId) (answer : Bool) → answer ≡ eq_by_cmp target_id_cmp a b → IsTrue answer ↔ (a ≡ b)
equal-tells a b answer is = (
  λ yes_. tells_apart same_id a b (sym is ∙ yes_),
  λ same. is ∙ subst (λ other. eq_by_cmp target_id_cmp a other ≡ true) same
      (ap is_eq (tied_itself (then_total (on_total rank_of nat_cmp_total) (on_total name_or_empty nat_list_cmp_total)) a)),
)
