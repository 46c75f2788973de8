-- Paths that are equal have the same components, and the other way round.
use Rattle.std.proofs.Common.{◌≡◌, ◌∙◌, refl, sym, ap, ℕ, Bool, List}
use Rattle.std.specs.Prelude.{◌↔◌, IsTrue}
use Rattle.std.specs.Ordering.{eq_by_cmp, is_eq, ordering_reverse}
use Rattle.std.specs.Cmp.{IsTotalOrder, on_total, then_total, nat_cmp_total}
use Rattle.std.specs.Cmp.Lexicographic.{lists_total, on_texts}
use Rattle.std.specs.declared.cmp.Ordering.{Ordering}
use Rattle.std.specs.declared.cmp.Ordering.TheVariants.{Less, Equal, Greater}
use Rattle.guppy_data.specs.Path.{components, rank_of, name_of, path_cmp}
use Rattle.guppy_data.specs.SamePath.{same_components}

path_total : IsTotalOrder path_cmp
path_total = on_total components (lists_total (then_total (on_total rank_of nat_cmp_total) (on_texts name_of)))

own_reverse : (o : Ordering) → o ≡ ordering_reverse o → o ≡ Equal
own_reverse Less h = absurd (cc)
own_reverse Equal h = refl
own_reverse Greater h = absurd (cc)

-- in a total order each is equal to itself
equal_to_itself : {K : Type 0} {R : K → K → Ordering} → IsTotalOrder R → (x : K) → R x x ≡ Equal
equal_to_itself {R = R} total x = own_reverse (R x x) (total.antisymm x x)

-- paths are equal exactly where their components are
pub same_path : (p q : List ℕ) (answer : Bool) → answer ≡ eq_by_cmp path_cmp p q → IsTrue answer ↔ (components p ≡ components q)
same_path p q answer is = (
  λ h. same_components p q (sym is ∙ h),
  λ same. let equal : path_cmp p q ≡ Equal = rw same (equal_to_itself path_total q) in is ∙ ap is_eq equal,
)
