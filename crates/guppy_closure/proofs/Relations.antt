-- What holds by the clauses of a list, and by those of a relation.
use Rattle.std.proofs.Common.{◌≡◌, ◌↔◌, List, [], Option, Some, None, inl, inr, refl, ap}
use Rattle.std.specs.Prelude.{Contains, option_to_list}
use Rattle.std.proofs.lemmas.List.Elements.{Contains-append_cases}
use Rattle.guppy_search.proofs.Lists.{nothing_in, Contains-cons_cases}
use Rattle.guppy_closure.specs.declared.clause.Clause.{Clause}
use Rattle.guppy_closure.specs.Clauses.{InBody, Holds, by}
use Rattle.guppy_closure.specs.Named.{body_of}
use Rattle.guppy_closure.specs.Relations.{HoldsBy, step, AreClausesOf}
use Rattle.guppy_closure.proofs.MetBodies.{Holds-least}
use Rattle.guppy_closure.proofs.Places.{contains_at, at_contains}

module _ {F : Type 0} where
  in_option : (a : Option F) (b : F) → Contains (option_to_list a) b → a ≡ Some b
  in_option None b h = absurd (nothing_in b h)
  in_option (Some f) b h = elim (Contains-cons_cases f b [] h) as (λ _. Some f ≡ Some b) [
    | inl e ↦ ap Some e
    | inr none ↦ absurd (nothing_in b none)
  ]

  pub in_body_of : (c : Clause F) (b : F) → Contains (body_of c) b → InBody c b
  in_body_of c b h = elim (Contains-append_cases (option_to_list c.first) (option_to_list c.second) b h) as (λ _. InBody c b) [
    | inl i ↦ inl (in_option c.first b i)
    | inr i ↦ inr (in_option c.second b i)
  ]

  module _ (C : List F → F → Type 0) (clauses : List (Clause F)) (are : AreClausesOf C clauses) where
    by_list : (f : F) → HoldsBy C f → Holds clauses f
    by_list f (step body c all) =
        let w = are.whole body f c in
        let at = at_contains clauses w.0 w.1 in
        by at.0 w.0 at.1 w.2 (λ b i. by_list b (all b (w.3 b i)))

    -- where the list has the relation's clauses, the same facts hold
    pub holds_by : (f : F) → HoldsBy C f ↔ Holds clauses f
    holds_by f = (
      λ h. by_list f h,
      λ h. Holds-least clauses (HoldsBy C) (λ n c found met. step (body_of c) (are.sound c (contains_at clauses c n found)) (λ b i. met b (in_body_of c b i))) f h,
    )

  fewer_hold : (xs ys : List (Clause F)) → ((c : Clause F) → Contains xs c → Contains ys c) → (f : F) → Holds xs f → Holds ys f
  fewer_hold xs ys among f h =
      Holds-least xs (Holds ys) (λ n c found met. let at = at_contains ys c (among c (contains_at xs c n found)) in by at.0 c at.1 refl met) f h

  -- where two lists have the same clauses, the same facts hold
  pub same_members : (xs ys : List (Clause F)) → ((c : Clause F) → Contains xs c ↔ Contains ys c) → (f : F) → Holds xs f ↔ Holds ys f
  same_members xs ys same f = (λ h. fewer_hold xs ys (λ c. (same c).0) f h, λ h. fewer_hold ys xs (λ c. (same c).1) f h)
