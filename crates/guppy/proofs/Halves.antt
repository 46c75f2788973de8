-- Two halves of the packages that a set lists.
use Rattle.std.proofs.Common.{◌≡◌, ◌∙◌, sym, ap, subst, arith, ℕ, zero, suc, Bool, true, false, inl, inr, ◌⊎◌, ⊎_elim, List, [], ◌∷◌, Some, slice_get}
use Rattle.std.specs.Prelude.{◌↔◌, option_map}
use Rattle.std.specs.List.{Contains}
use Rattle.std.proofs.lemmas.Option.{slice_get-map, slice_get-get_or}
use Rattle.guppy_search.specs.declared.ix.direction.DependencyDirection.{DependencyDirection}
use Rattle.guppy_search.specs.IxSet.{IsIn}
use Rattle.guppy_core.specs.Listing.{Stands, IsOnce}
use Rattle.guppy.specs.Listed.{positions_listed}
use Rattle.guppy.specs.Query.{SetData}
use Rattle.guppy.specs.Asked.{asked_about, AreAnswered, AreHalves}

-- What was asked about the packages of a set.

asked_at : {A : Type 0} (answers : List (ℕ × A)) (p : ℕ) (a : A) → (c : Contains answers (p, a)) → slice_get (asked_about answers) c.0 ≡ Some p
asked_at {A} answers p a c =
    slice_get-map (λ entry. entry.0) answers c.0 ∙ ap (option_map (λ (entry : ℕ × A). entry.0)) (slice_get-get_or answers c.0 (p, a) c.1 ∙ ap Some c.2)

answered_at : {A : Type 0} (answers : List (ℕ × A)) (k p : ℕ) → slice_get (asked_about answers) k ≡ Some p → (a : A) × Contains answers (p, a)
answered_at [] k p at = absurd (cc)
answered_at {A} (e ∷ es) zero p at =
    let same : e.0 ≡ p = cc in
    (e.1, (0, omega arith, ap (λ (q : ℕ). let entry : ℕ × A = (q, e.1) in entry) same))
answered_at (e ∷ es) (suc k) p at = let a = answered_at es k p at in (a.0, (suc a.1.0, let within = a.1.1 in omega arith, a.1.2))

two_answers : (answers : List (ℕ × Bool)) (k p : ℕ) → slice_get answers k ≡ Some (p, true) → slice_get answers k ≡ Some (p, false) → ⊥
two_answers answers k p one other = absurd (let same : Some true ≡ Some false = ap (option_map (λ (entry : ℕ × Bool). entry.1)) (sym one ∙ other) in cc)

module _ (d : DependencyDirection) (s : SetData) (lists_members : (p : ℕ) → Stands (positions_listed d s) p ↔ IsIn s.included p) (lists_once : IsOnce (positions_listed d s)) where
  module _ (answers : List (ℕ × Bool)) (about : asked_about answers ≡ positions_listed d s) (first second : List Bool) (are_first : AreAnswered answers true first) (are_second : AreAnswered answers false second) where
    was_listed : (p : ℕ) (a : Bool) → Contains answers (p, a) → IsIn s.included p
    was_listed p a c = (lists_members p).0 (c.0, subst (λ l. slice_get l c.0 ≡ Some p) about (asked_at answers p a c))

    in_a_half : (p : ℕ) (a : Bool) → Contains answers (p, a) → IsIn first p ⊎ IsIn second p
    in_a_half p true c = inl ((are_first p).1 c)
    in_a_half p false c = inr ((are_second p).1 c)

    apart : (p : ℕ) → IsIn first p → IsIn second p → ⊥
    apart p in_first in_second =
        let c = (are_first p).0 in_first in
        let e = (are_second p).0 in_second in
        let same : c.0 ≡ e.0 = lists_once c.0 e.0 p (subst (λ l. slice_get l c.0 ≡ Some p) about (asked_at answers p true c)) (subst (λ l. slice_get l e.0 ≡ Some p) about (asked_at answers p false e)) in
        let at_c : slice_get answers c.0 ≡ Some (p, true) = slice_get-get_or answers c.0 (p, true) c.1 ∙ ap Some c.2 in
        let at_e : slice_get answers e.0 ≡ Some (p, false) = slice_get-get_or answers e.0 (p, false) e.1 ∙ ap Some e.2 in
        two_answers answers c.0 p at_c (subst (λ k. slice_get answers k ≡ Some (p, false)) (sym same) at_e)

    -- the two that were answered true and false
    pub halves_of : AreHalves s.included first second
    halves_of = record {
      disjoint = apart;
      union = λ p. (
        λ h. let st = (lists_members p).1 h in
            let a = answered_at answers st.0 p (subst (λ l. slice_get l st.0 ≡ Some p) (sym about) st.1) in
            in_a_half p a.0 a.1,
        λ h. ⊎_elim (λ i. was_listed p true ((are_first p).0 i)) (λ i. was_listed p false ((are_second p).0 i)) h,
      );
    }
