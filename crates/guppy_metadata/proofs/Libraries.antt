-- The library among build targets: one JSON tells one, and it is found target by target.
use Rattle.std.proofs.Common.{◌≡◌, ◌∙◌, inl, inr, ℕ, zero, suc, ◌<◌, List, [], ◌∷◌, ◌++◌, map, take, length, get_or, Option, None, Some, IsSomeAnd, option_and_then, refl, sym, ap, subst, arith, codes}
use Rattle.std.proofs.lemmas.Bool.{false≢true}
use Rattle.std.proofs.lemmas.Option.{none-some}
use Rattle.json.specs.Json.{Json, string, array}
use Rattle.json.specs.Find.{get}
use Rattle.json.specs.Value.{items_of, value_view}
use Rattle.json.specs.declared.value.Value.{Value}
use Rattle.guppy_metadata.specs.Fault.{LacksMemory, NoneIs}
use Rattle.guppy_metadata.specs.Members.{AreTexts, HasNoMembers, unless_null}
use Rattle.guppy_metadata.specs.Package.{IsLibrary}
use Rattle.guppy_metadata.specs.Target.{is_library_kind, HasKind, IsLibraryName, IsFirstLibrary, IsLibraryAmong}
use Rattle.guppy_metadata.specs.declared.fault.Misfit.{Misfit}
use Rattle.guppy_metadata.proofs.OnceTold.{text_once, texts_once, items_once}

abbrev first_or : List (List ℕ) → List ℕ → List ℕ
first_or [] text = text
first_or (first ∷ texts) text = first

-- a target has one first kind
kind_once : (d : Json) (kind other : List ℕ) → HasKind d kind → HasKind d other → kind ≡ other
kind_once d kind other has also = ap (λ texts. first_or texts []) (texts_once d (codes "kind") (kind ∷ has.0) (other ∷ also.0) has.1 also.1)

-- no target is a library and none
not_both : (d : Json) (name : List ℕ) → IsLibraryName d None → IsLibraryName d (Some name) → ⊥
not_both d name none some = false≢true (sym none.2 ∙ (ap is_library_kind (kind_once d none.0 some.0 none.1 some.1) ∙ some.2))

-- what is read of a target has kinds
pub has_kinds : (d : Json) (name : Option (List ℕ)) → IsLibraryName d name → (kinds : List ℕ × List (List ℕ)) × AreTexts (codes "kind") d (kinds.0 ∷ kinds.1)
has_kinds d None is = ((is.0, is.1.0), is.1.1)
has_kinds d (Some name) is = ((is.0, is.1.0), is.1.1)

no_kinds : (d : Json) (kind : List ℕ) (others : List (List ℕ)) → get (codes "kind") d ≡ None → AreTexts (codes "kind") d (kind ∷ others) → ⊥
no_kinds d kind others none (inl some) = none-some _ (sym (ap (option_and_then unless_null) none) ∙ some)
no_kinds d kind others none (inr empty) = let same : string kind ∷ map string others ≡ [] = empty.1 in cc

-- what has no members has no kind, so nothing is read of it
pub no_library : (d : Json) (e : Misfit) → HasNoMembers d → NoneIs (IsLibraryName d) e
no_library d e none other name is = let kinds = has_kinds d name is in no_kinds d kinds.0.0 kinds.0.1 (none (codes "kind")) kinds.1

first_once : (ds : List Json) (one other : Option (List ℕ)) → IsFirstLibrary ds one → IsFirstLibrary ds other → one ≡ other
first_once [] one other is also = is ∙ sym also
first_once (d ∷ ds) None None is also = refl
first_once (d ∷ ds) None (Some b) is (inl named) = absurd (not_both d b is.0 named)
first_once (d ∷ ds) None (Some b) is (inr behind) = first_once ds None (Some b) is.1 behind.1
first_once (d ∷ ds) (Some a) None (inl named) also = absurd (not_both d a also.0 named)
first_once (d ∷ ds) (Some a) None (inr behind) also = first_once ds (Some a) None behind.1 also.1
first_once (d ∷ ds) (Some a) (Some b) (inl named) (inl too) = ap Some (text_once d (codes "name") a b named.3 too.3)
first_once (d ∷ ds) (Some a) (Some b) (inl named) (inr behind) = absurd (not_both d a behind.0 named)
first_once (d ∷ ds) (Some a) (Some b) (inr behind) (inl named) = absurd (not_both d b behind.0 named)
first_once (d ∷ ds) (Some a) (Some b) (inr one) (inr two) = first_once ds (Some a) (Some b) one.1 two.1

among_once : (told : Option Json) (one other : Option (List ℕ)) → IsSomeAnd told (λ list. IsLibraryAmong list one) → IsSomeAnd told (λ list. IsLibraryAmong list other) → one ≡ other
among_once None one other is also = absurd is
among_once (Some list) one other is also =
    first_once is.0 one other is.2 (subst (λ ds. IsFirstLibrary ds other) (sym (items_once is.0 also.0 (sym is.1 ∙ also.1))) also.2)

-- one JSON tells one library of a package
pub library_once : (d : Json) (one other : Option (List ℕ)) → IsLibrary d one → IsLibrary d other → one ≡ other
library_once d one other is also = among_once (get (codes "targets") d) one other is also

-- behind a library nothing counts
pub library_stays : (ds : List Json) (d : Json) (name : List ℕ) → IsFirstLibrary ds (Some name) → IsFirstLibrary (ds ++ d ∷ []) (Some name)
library_stays [] d name is = absurd (none-some name (sym is))
library_stays (t ∷ ts) d name (inl named) = inl named
library_stays (t ∷ ts) d name (inr behind) = inr (behind.0, library_stays ts d name behind.1)

-- behind what is none, the next target says what there is
pub library_next : (ds : List Json) (d : Json) (name : Option (List ℕ)) → IsFirstLibrary ds None → IsLibraryName d name → IsFirstLibrary (ds ++ d ∷ []) name
library_next [] d None none is = (is, refl)
library_next [] d (Some name) none is = inl is
library_next (t ∷ ts) d None none is = (none.0, library_next ts d None none.1 is)
library_next (t ∷ ts) d (Some name) none is = inr (none.0, library_next ts d (Some name) none.1 is)

module _ {A : Type 0} (seen : A → Json) where
  library_at : (items : List A) (k : ℕ) (other : A) (name : List ℕ) → k < length items → IsFirstLibrary (map seen (take k items)) None → IsLibraryName (seen (get_or items k other)) (Some name)
      → IsFirstLibrary (map seen items) (Some name)
  library_at [] k other name low none is = absurd (omega arith)
  library_at (a ∷ items) zero other name low none is = inl is
  library_at (a ∷ items) (suc k) other name low none is = inr (none.0, library_at items k other name (omega arith) none.1 is)

  name_at : (items : List A) (k : ℕ) (other : A) (name : Option (List ℕ)) → k < length items → IsFirstLibrary (map seen (take k items)) None → IsFirstLibrary (map seen items) name
      → (own : Option (List ℕ)) × IsLibraryName (seen (get_or items k other)) own
  name_at [] k other name low none is = absurd (omega arith)
  name_at (a ∷ items) zero other None low none is = (None, is.0)
  name_at (a ∷ items) zero other (Some name) low none (inl named) = (Some name, named)
  name_at (a ∷ items) zero other (Some name) low none (inr behind) = (None, behind.0)
  name_at (a ∷ items) (suc k) other None low none is = name_at items k other None (omega arith) none.1 is.1
  name_at (a ∷ items) (suc k) other (Some name) low none (inl named) = absurd (not_both (seen a) name none.0 named)
  name_at (a ∷ items) (suc k) other (Some name) low none (inr behind) = name_at items k other (Some name) (omega arith) none.1 behind.1

-- a list of targets that is told
module _ {A : Type 0} (told : Option Json) (all items : List (Value A)) (list_is : told ≡ Some (array (items_of (map value_view all)))) (are : items ≡ all) where
  told_is : told ≡ Some (array (items_of (map value_view items)))
  told_is = list_is ∙ ap (λ vs. Some (array (items_of (map value_view vs)))) (sym are)

  pub library_told : (name : Option (List ℕ)) → IsFirstLibrary (map value_view items) name → IsSomeAnd told (λ list. IsLibraryAmong list name)
  library_told name is = subst (λ o. IsSomeAnd o (λ list. IsLibraryAmong list name)) (sym told_is) (map value_view items, refl, is)

  -- none of the targets before one is a library
  module _ (k : ℕ) (this other : Value A) (low : k < length items) (at : this ≡ get_or items k other) (none : IsFirstLibrary (map value_view (take k items)) None) where
    pub library_here : (name : List ℕ) → IsLibraryName (value_view this) (Some name) → IsSomeAnd told (λ list. IsLibraryAmong list (Some name))
    library_here name is = library_told (Some name) (library_at value_view items k other name low none (subst (λ v. IsLibraryName (value_view v) (Some name)) at is))

    -- where nothing is read of it, there is none
    pub library_refused : (d : Json) (e f : Misfit) → d ≡ value_view this → (LacksMemory f → LacksMemory e) → NoneIs (IsLibraryName d) f → NoneIs (λ name. IsSomeAnd told (λ list. IsLibraryAmong list name)) e
    library_refused d e f same kept nothing other_fault name is =
        let list = subst (λ o. IsSomeAnd o (λ list. IsLibraryAmong list name)) told_is is in
        let first = subst (λ ds. IsFirstLibrary ds name) (sym (items_once (map value_view items) list.0 list.1)) list.2 in
        let own = name_at value_view items k other name low none first in
        nothing (λ lacks. other_fault (kept lacks)) own.0 (subst (λ j. IsLibraryName j own.0) (ap value_view (sym at) ∙ sym same) own.1)
