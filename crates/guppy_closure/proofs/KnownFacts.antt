-- What is known of clauses over facts of any ordered type.
use Rattle.std.proofs.Common.{◌≡◌, ◌↔◌, ℕ, Bool, List, Option, Some, None, IsTrue, is_some, Result, Ok, Err, Vec, Global, refl, subst}
use Rattle.std.specs.Prelude.{Contains, MatchOption, IfOk}
use Rattle.std.specs.List.Sorted.{IsStrictlySortedBy}
use Rattle.std.specs.Cmp.{IsTotalOrder}
use Rattle.std.specs.declared.cmp.Ordering.{Ordering}
use Rattle.guppy_search.specs.IxSet.{IsIn}
use Rattle.guppy_closure.specs.declared.clause.Clause.{Clause}
use Rattle.guppy_closure.specs.Clauses.{Holds, by}
use Rattle.guppy_closure.specs.Derived.{IsDerivation, EndsWith, AreNeeded}
use Rattle.guppy_closure.specs.Named.{StandsAt, held, Knows}
use Rattle.guppy_closure.proofs.Places.{same_fact, same_place, held_in, in_held, held_sorted}
use Rattle.guppy_closure.proofs.Renamed.{back_clauses, clause_after, holds_after, derivation_after, ends_after, needed_after}

module _ {F : Type 0} {cmp : F → F → Ordering} (o : IsTotalOrder cmp) (clauses : List (Clause F)) (names : List F) (numbered : List (Clause ℕ)) (set : List Bool) (steps : List ℕ) (k : Knows cmp clauses names numbered set steps) where
  one : (f : F) (p q : ℕ) → StandsAt names f p → StandsAt names f q → p ≡ q
  one f p q a b = same_place o names k.order f p q a b

  apart : (p : ℕ) (f h : F) → StandsAt names f p → StandsAt names h p → f ≡ h
  apart p f h a b = same_fact names p f h a b

  -- a place is in the set where its fact holds
  holds_at : (f : F) (p : ℕ) → StandsAt names f p → IsIn set p ↔ Holds clauses f
  holds_at f p at = (
    λ i. holds_after (λ q h. StandsAt names h q) apart numbered clauses (back_clauses (StandsAt names) clauses numbered k.same) p f at ((k.holds p).0 i),
    λ h. (k.holds p).1 (holds_after (StandsAt names) one clauses numbered k.same f p at h),
  )

  -- a fact that holds is named
  named_at : (f : F) → Holds clauses f → (p : ℕ) × StandsAt names f p
  named_at f (by n c found head body) =
      let t = clause_after (StandsAt names) clauses numbered k.same n c found in
      (t.0.head, subst (λ x. StandsAt names x t.0.head) head t.2.head)

  -- the facts whose places are in the set are those that hold
  facts_hold : (f : F) → Contains (held set names) f ↔ Holds clauses f
  facts_hold f = (
    λ h. let w = in_held set names f h in (holds_at f w.0 w.1).0 w.2,
    λ h. let w = named_at f h in held_in set names f w.0 w.1 ((holds_at f w.0 w.1).1 h),
  )

  -- so where they are listed, exactly these are, in their order
  pub facts_known : {E : Type 0} (r : Result (Vec F Global) E) (all : List F) (cs : List (Clause F)) → all ≡ names → clauses ≡ cs → IfOk r (λ facts. facts.items ≡ held set all) → IfOk r (λ facts. (f : F) → Contains facts.items f ↔ Holds cs f)
  facts_known (Err e) all cs same view is = tt
  facts_known (Ok facts) all cs same view is = λ f. subst (λ z. Contains facts.items f ↔ Holds z f) view (rw (is, same) (facts_hold f))

  pub order_known : {E : Type 0} (r : Result (Vec F Global) E) (all : List F) → all ≡ names → IfOk r (λ facts. facts.items ≡ held set all) → IfOk r (λ facts. IsStrictlySortedBy cmp facts.items)
  order_known (Err e) all same is = tt
  order_known (Ok facts) all same is = rw (is, same) (held_sorted cmp set names k.order)

  -- what looking up a fact tells
  told : (f : F) (place : Option ℕ) → MatchOption place ((p : ℕ) → StandsAt names f p → ¬ IsIn set p) (λ p. StandsAt names f p × IsIn set p) → IsTrue (is_some place) ↔ Holds clauses f
  told f None none = (λ t. absurd (cc), λ h. let w = named_at f h in absurd (none w.0 w.1 ((holds_at f w.0 w.1).1 h)))
  told f (Some p) at = (λ _. (holds_at f p at.0).0 at.1, λ _. refl)

  pub told_by : (f : F) (place : Option ℕ) (all : List F) (cs : List (Clause F)) → all ≡ names → clauses ≡ cs → MatchOption place ((p : ℕ) → StandsAt all f p → ¬ IsIn set p) (λ p. StandsAt all f p × IsIn set p) → IsTrue (is_some place) ↔ Holds cs f
  told_by f place all cs same view at =
      subst (λ z. IsTrue (is_some place) ↔ Holds z f) view (told f place (subst (λ ns. MatchOption place ((p : ℕ) → StandsAt ns f p → ¬ IsIn set p) (λ p. StandsAt ns f p × IsIn set p)) same at))

  -- a derivation of a place is one of its fact
  derivation_known : (ns : List ℕ) → IsDerivation numbered ns → IsDerivation clauses ns
  derivation_known = derivation_after (λ q h. StandsAt names h q) apart (λ p q h a b. one h p q a b) numbered clauses (back_clauses (StandsAt names) clauses numbered k.same)

  ends_known : (ns : List ℕ) (f : F) (p : ℕ) → StandsAt names f p → EndsWith numbered ns p → EndsWith clauses ns f
  ends_known ns f p at = ends_after (λ q h. StandsAt names h q) apart numbered clauses (back_clauses (StandsAt names) clauses numbered k.same) ns p f at

  needed_known : (ns : List ℕ) (f : F) (p : ℕ) → StandsAt names f p → AreNeeded numbered ns p → AreNeeded clauses ns f
  needed_known ns f p at = needed_after (λ q h. StandsAt names h q) apart (λ p q h a b. one h p q a b) numbered clauses (back_clauses (StandsAt names) clauses numbered k.same) ns p f at

  -- the same of lists that are read through others
  module _ (ds : List (Clause ℕ)) (cs : List (Clause F)) (numbers : ds ≡ numbered) (view : clauses ≡ cs) (ns : List ℕ) where
    pub order_by : IsDerivation ds ns → IsDerivation cs ns
    order_by order = subst (λ z. IsDerivation z ns) view (derivation_known ns (subst (λ z. IsDerivation z ns) numbers order))

    module _ (f : F) (p : ℕ) (all : List F) (same : all ≡ names) (at : StandsAt all f p) where
      pub last_by : EndsWith ds ns p → EndsWith cs ns f
      last_by last = subst (λ z. EndsWith z ns f) view (ends_known ns f p (subst (λ z. StandsAt z f p) same at) (subst (λ z. EndsWith z ns p) numbers last))

      pub needed_by : AreNeeded ds ns p → AreNeeded cs ns f
      needed_by needed = subst (λ z. AreNeeded z ns f) view (needed_known ns f p (subst (λ z. StandsAt z f p) same at) (subst (λ z. AreNeeded z ns p) numbers needed))
