-- Lists with an item that is read as nothing, so that the list is neither.
use Rattle.std.proofs.Common.{◌≡◌, ◌∙◌, ℕ, zero, suc, ◌<◌, List, [], ◌∷◌, map, length, get_or, Option, Some, IsSomeAnd, sym, ap, subst, arith}
use Rattle.std.specs.List.{AllZip}
use Rattle.json.specs.Json.{Json, array}
use Rattle.json.specs.Value.{items_of, value_view}
use Rattle.json.specs.declared.value.Value.{Value}
use Rattle.guppy_metadata.specs.Fault.{LacksMemory, NoneIs}
use Rattle.guppy_metadata.specs.Members.{IsListOf}
use Rattle.guppy_metadata.specs.declared.fault.Misfit.{Misfit}
use Rattle.guppy_metadata.proofs.OnceTold.{items_once}

-- what fits the item at a place
fits_at : {A B X : Type 0} (R : B → X → Type 0) (seen : A → B) (items : List A) (k : ℕ) (other : A) (xs : List X) → k < length items → AllZip R (map seen items) xs
    → (x : X) × R (seen (get_or items k other)) x
fits_at R seen [] k other xs low all = absurd (omega arith)
fits_at R seen (a ∷ items) k other [] low all = absurd all
fits_at R seen (a ∷ items) zero other (x ∷ xs) low all = (x, all.0)
fits_at R seen (a ∷ items) (suc k) other (x ∷ xs) low all = fits_at R seen items k other xs (omega arith) all.1

-- where an item is read as nothing, the list is neither
pub no_list : {A X : Type 0} (R : Json → X → Type 0) (seen : A → Json) (items : List A) (k : ℕ) (this other : A) → k < length items → this ≡ get_or items k other → ((x : X) → R (seen this) x → ⊥)
    → (xs : List X) → IsListOf R (array (items_of (map seen items))) xs → ⊥
no_list {X} R seen items k this other low is none xs all =
    let at = fits_at R seen items k other xs low (subst (λ js. AllZip R js xs) (sym (items_once (map seen items) all.0 all.1)) all.2) in
    none at.0 (subst (λ a. R (seen a) at.0) (sym is) at.1)

-- a list that is told, with an item at a place
module _ {A : Type 0} (told : Option Json) (all items : List (Value A)) (list_is : told ≡ Some (array (items_of (map value_view all)))) (are : items ≡ all)
    (k : ℕ) (this other : Value A) (low : k < length items) (at : this ≡ get_or items k other) (e : Misfit) where
  told_is : told ≡ Some (array (items_of (map value_view items)))
  told_is = list_is ∙ ap (λ vs. Some (array (items_of (map value_view vs)))) (sym are)

  -- where nothing is read of the item, no list is
  pub item_refused : {X : Type 0} (R : Json → X → Type 0) (d : Json) (f : Misfit) → d ≡ value_view this → (LacksMemory f → LacksMemory e) → NoneIs (R d) f
      → NoneIs (λ xs. IsSomeAnd told (λ list. IsListOf R list xs)) e
  item_refused {X} R d f same kept none other_fault xs all =
      let none_here : (x : X) → R (value_view this) x → ⊥ = λ x is. none (λ lacks. other_fault (kept lacks)) x (subst (λ d. R d x) (sym same) is) in
      no_list R value_view items k this other low at none_here xs (subst (λ o. IsSomeAnd o (λ list. IsListOf R list xs)) told_is all)
