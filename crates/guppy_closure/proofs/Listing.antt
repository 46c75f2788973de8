-- The facts that clauses name, put into a list.
use Rattle.std.proofs.Common.{◌≡◌, List, [], ◌∷◌, ◌++◌, Some, inl, inr, subst}
use Rattle.std.specs.Prelude.{Contains, flat_map}
use Rattle.std.proofs.lemmas.List.Elements.{Contains-append_cases}
use Rattle.guppy_search.proofs.Lists.{nothing_in, Contains-cons_cases}
use Rattle.guppy_closure.specs.declared.clause.Clause.{Clause}
use Rattle.guppy_closure.specs.Named.{body_of, facts_of, HasNames}
use Rattle.guppy_closure.proofs.Relations.{in_body_of}

module _ {F : Type 0} where
  -- what holds of the facts of a clause one by one holds of all that it names
  pub all_named : (c : Clause F) (P : F → Type 0) → ((f : F) → c.first ≡ Some f → P f) → ((f : F) → c.second ≡ Some f → P f) → P c.head
      → (f : F) → Contains (facts_of c) f → P f
  all_named c P first second head f h = elim (Contains-append_cases (body_of c) (c.head ∷ []) f h) as (λ _. P f) [
    | inl i ↦ elim (in_body_of c f i) as (λ _. P f) [
      | inl e ↦ first f e
      | inr e ↦ second f e
    ]
    | inr i ↦ elim (Contains-cons_cases c.head f [] i) as (λ _. P f) [
      | inl e ↦ subst P e head
      | inr none ↦ absurd (nothing_in f none)
    ]
  ]

  -- with the facts of one more clause, the list has those of one more
  pub names_more : (cs ds : List (Clause F)) (c : Clause F) (names more : List F) → flat_map facts_of ds ≡ flat_map facts_of cs ++ facts_of c
      → HasNames cs names → ((f : F) → Contains names f → Contains more f) → ((f : F) → Contains (facts_of c) f → Contains more f) → HasNames ds more
  names_more cs ds c names more is has kept named f h =
      elim (Contains-append_cases (flat_map facts_of cs) (facts_of c) f (subst (λ (fs : List F). Contains fs f) is h)) as (λ _. Contains more f) [
        | inl i ↦ kept f (has f i)
        | inr i ↦ named f i
      ]
