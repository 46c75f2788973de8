-- Lemmas on lists that strictly ascend.
use Rattle.std.proofs.Common.{◌≡◌, List, [], ◌∷◌, map}
use Rattle.std.specs.declared.cmp.Ordering.{Ordering}
use Rattle.std.specs.declared.cmp.Ordering.TheVariants.{Less}
use Rattle.std.specs.List.{AllByRecursion}
use Rattle.std.specs.List.Sorted.{IsStrictlySortedBy}
use Rattle.std.specs.Ordering.{on}

-- what holds of all that is read holds of what is read of each
AllByRecursion-map : {A K : Type 0} (P : K → Type 0) (read : A → K) (xs : List A) → AllByRecursion (λ x. P (read x)) xs → AllByRecursion P (map read xs)
AllByRecursion-map P read [] h = h
AllByRecursion-map P read (x ∷ xs) h = (h.0, AllByRecursion-map P read xs h.1)

-- where elements ascend by what is read of them, that ascends
pub IsStrictlySortedBy-map : {A K : Type 0} (order : K → K → Ordering) (read : A → K) (xs : List A) → IsStrictlySortedBy (on read order) xs → IsStrictlySortedBy order (map read xs)
unfolding IsStrictlySortedBy
IsStrictlySortedBy-map order read [] h = h
IsStrictlySortedBy-map order read (x ∷ xs) h =
    (AllByRecursion-map (λ key. order (read x) key ≡ Less) read xs h.0, IsStrictlySortedBy-map order read xs h.1)
