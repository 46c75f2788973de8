-- Lists of IDs, and sets, that are equal or not.
use Rattle.std.proofs.Common.{◌≡◌, refl, ap, ◌∙◌, ℕ, suc, Bool, true, List, [], ◌∷◌, length, arith}
use Rattle.std.specs.Prelude.{◌↔◌}
use Rattle.std.specs.Cmp.{both_ways}
use Rattle.std.proofs.lemmas.Slice.Eq.{slice_eq-Decides, bytes_eq-Decides}
use Rattle.guppy_search.specs.IxSet.{IsIn}
use Rattle.guppy_data.specs.declared.records.PackageRecord.{PackageRecord}
use Rattle.guppy_graph.specs.Ids.{ids_of}
use Rattle.guppy.specs.Same.{same_ids}

-- the lists are the same exactly where they are equal
pub same_ids-equal : (a b : List PackageRecord) (r : Bool) → r ≡ same_ids a b → (r ≡ true) ↔ (ids_of a ≡ ids_of b)
same_ids-equal a b r e = slice_eq-Decides bytes_eq-Decides (ids_of a) (ids_of b) r e

-- what decides that they are equal is whether they are the same
pub same_ids-decided : (a b : List PackageRecord) (r : Bool) → (r ≡ true) ↔ (ids_of a ≡ ids_of b) → same_ids a b ≡ r
same_ids-decided a b r decides =
    let equal = same_ids-equal a b (same_ids a b) refl in
    both_ways (same_ids a b) r (λ e. decides.1 (equal.0 e)) (λ e. equal.1 (decides.0 e))

-- sets of as many positions with the same members are equal
pub same_members : (s t : List Bool) → length s ≡ length t → ((p : ℕ) → IsIn s p ↔ IsIn t p) → s ≡ t
same_members [] [] count same = refl
same_members [] (b ∷ t) count same = absurd (omega arith)
same_members (a ∷ s) [] count same = absurd (omega arith)
same_members (a ∷ s) (b ∷ t) count same =
    ap (λ c. c ∷ s) (both_ways a b (same 0).0 (same 0).1) ∙ ap (λ rest. b ∷ rest) (same_members s t (omega arith) (λ p. same (suc p)))
