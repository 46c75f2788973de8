-- The same clauses over two kinds of facts.
use Rattle.std.proofs.Common.{◌≡◌, ◌⊎◌, ℕ, List, [], ◌∷◌, ◌++◌, length-append, Option, Some, None, inl, inr, refl, sym, subst, arith}
use Rattle.std.specs.Prelude.{slice_get}
use Rattle.std.proofs.lemmas.Option.{slice_get_within, slice_get_cases}
use Rattle.guppy_closure.specs.declared.clause.Clause.{Clause}
use Rattle.guppy_closure.specs.Clauses.{InBody, Holds, by}
use Rattle.guppy_closure.specs.Derived.{HasClause, IsDerived, Follows, IsDerivation, EndsWith, AreNeeded}
use Rattle.guppy_closure.proofs.Linked.{slice_get-push_cases}
use Rattle.guppy_closure.specs.Named.{IsSameFact, IsSameClause, AreSame}

module _ {F G : Type 0} (R : F → G → Type 0) where
  -- read from the other side
  back_fact : (a : Option F) (b : Option G) → IsSameFact R a b → IsSameFact (λ g f. R f g) b a
  back_fact None None s = s
  back_fact None (Some g) s = absurd s
  back_fact (Some f) None s = absurd s
  back_fact (Some f) (Some g) s = s

  back_clause : (c : Clause F) (d : Clause G) → IsSameClause R c d → IsSameClause (λ g f. R f g) d c
  back_clause c d s = record {
    first = back_fact c.first d.first s.first;
    second = back_fact c.second d.second s.second;
    head = s.head;
  }

  pub back_clauses : (cs : List (Clause F)) (ds : List (Clause G)) → AreSame R cs ds → AreSame (λ g f. R f g) ds cs
  back_clauses cs ds s = record {
    size = sym s.size;
    each = λ n d c found other. back_clause c d (s.each n c d other found);
  }

  -- what a fact stands for is there where it is
  fact_before : (a : Option F) (b : Option G) (g : G) → IsSameFact R a b → b ≡ Some g → (f : F) × (a ≡ Some f) × R f g
  fact_before None None g s e = absurd (cc)
  fact_before None (Some h) g s e = absurd s
  fact_before (Some f) None g s e = absurd (cc)
  fact_before (Some f) (Some h) g s e = let same : h ≡ g = cc in (f, refl, subst (R f) same s)

  body_before : (c : Clause F) (d : Clause G) (g : G) → IsSameClause R c d → InBody d g → (f : F) × InBody c f × R f g
  body_before c d g s i = elim i as (λ _. (f : F) × InBody c f × R f g) [
    | inl e ↦ let w = fact_before c.first d.first g s.first e in (w.0, inl w.1, w.2)
    | inr e ↦ let w = fact_before c.second d.second g s.second e in (w.0, inr w.1, w.2)
  ]

  -- the clause that stands for one
  pub clause_after : (cs : List (Clause F)) (ds : List (Clause G)) → AreSame R cs ds → (n : ℕ) (c : Clause F) → slice_get cs n ≡ Some c → (d : Clause G) × (slice_get ds n ≡ Some d) × IsSameClause R c d
  clause_after cs ds s n c found =
      let low = slice_get_within cs n c found in
      let size = s.size in
      elim (slice_get_cases ds n).1 as (λ _. (d : Clause G) × (slice_get ds n ≡ Some d) × IsSameClause R c d) [
        | inl w ↦ (w.0, w.2, s.each n c w.0 found w.2)
        | inr w ↦ absurd (let past = w.0 in omega arith)
      ]

-- with one more clause each
pub same_push : {F G : Type 0} (R : F → G → Type 0) (cs : List (Clause F)) (ds : List (Clause G)) (c : Clause F) (d : Clause G) → AreSame R cs ds → IsSameClause R c d → AreSame R (cs ++ c ∷ []) (ds ++ d ∷ [])
same_push R cs ds c d s one = record {
  size = let size = s.size in simp length-append (omega arith);
  each = λ n a b at bt. elim (slice_get-push_cases cs c n a at) as (λ _. IsSameClause R a b) [
    | inl before ↦ elim (slice_get-push_cases ds d n b bt) as (λ _. IsSameClause R a b) [
      | inl there ↦ s.each n a b before there
      | inr last ↦ absurd (let low = slice_get_within cs n a before in let end = last.0 in let size = s.size in omega arith)
    ]
    | inr own ↦ elim (slice_get-push_cases ds d n b bt) as (λ _. IsSameClause R a b) [
      | inl there ↦ absurd (let low = slice_get_within ds n b there in let end = own.0 in let size = s.size in omega arith)
      | inr last ↦ subst (λ z. IsSameClause R z b) own.1 (subst (IsSameClause R c) last.1 one)
    ]
  ];
}

-- where each fact stands for one
module _ {F G : Type 0} (R : F → G → Type 0) (one : (f : F) (g h : G) → R f g → R f h → g ≡ h) (cs : List (Clause F)) (ds : List (Clause G)) (s : AreSame R cs ds) where
  -- what holds stands for what holds
  pub holds_after : (f : F) (g : G) → R f g → Holds cs f → Holds ds g
  holds_after f g r (by n c found head body) =
      let t = clause_after R cs ds s n c found in
      by n t.0 t.1 (one f t.0.head g (subst (λ x. R x t.0.head) head t.2.head) r)
      (λ b i. let w = body_before R c t.0 b t.2 i in holds_after w.0 b w.2 (body w.0 w.1))

  pub derived_after : (ns : List ℕ) (f : F) (g : G) → R f g → IsDerived cs ns f → IsDerived ds ns g
  derived_after ns f g r h =
      let t = clause_after R cs ds s h.0 h.1 h.3 in
      (h.0, t.0, h.2, t.1, one f t.0.head g (subst (λ x. R x t.0.head) h.4 t.2.head) r)

  pub ends_after : (ns : List ℕ) (f : F) (g : G) → R f g → EndsWith cs ns f → EndsWith ds ns g
  ends_after ns f g r h =
      let t = clause_after R cs ds s h.1 h.2 h.4 in
      (h.0, h.1, t.0, h.3, t.1, one f t.0.head g (subst (λ x. R x t.0.head) h.5 t.2.head) r)

-- and no two stand for the same
module _ {F G : Type 0} (R : F → G → Type 0) (one : (f : F) (g h : G) → R f g → R f h → g ≡ h) (apart : (f h : F) (g : G) → R f g → R h g → f ≡ h) (cs : List (Clause F)) (ds : List (Clause G)) (s : AreSame R cs ds) where
  follows_after : (before : List ℕ) (n : ℕ) → Follows cs before n → Follows ds before n
  follows_after before n follows =
      let t = clause_after R cs ds s n follows.clause follows.found in
      record {
        clause = t.0;
        found = t.1;
        body = λ b i. let w = body_before R follows.clause t.0 b t.2 i in derived_after R one cs ds s before w.0 b w.2 (follows.body w.0 w.1);
        new = λ d. follows.new (derived_after (λ g f. R f g) (λ g f h. apart f h g) ds cs (back_clauses R cs ds s) before t.0.head follows.clause.head t.2.head d);
      }

  pub derivation_after : (ns : List ℕ) → IsDerivation cs ns → IsDerivation ds ns
  derivation_after ns each = λ before n after e. follows_after before n (each before n after e)

  pub needed_after : (ns : List ℕ) (f : F) (g : G) → R f g → AreNeeded cs ns f → AreNeeded ds ns g
  needed_after ns f g r needed = λ h derived.
      let t = clause_after (λ g f. R f g) ds cs (back_clauses R cs ds s) derived.0 derived.1 derived.3 in
      let own : R t.0.head h = subst (R t.0.head) derived.4 t.2.head in
      elim (needed t.0.head (derived.0, t.0, derived.2, t.1, refl)) as (λ _. (h ≡ g) ⊎ HasClause ds ns (λ c. InBody c h)) [
        | inl e ↦ inl (one f h g (subst (λ x. R x h) e own) r)
        | inr w ↦
            let d = clause_after R cs ds s w.0 w.1 w.3 in
            let b = body_before (λ g f. R f g) d.0 w.1 t.0.head (back_clause R w.1 d.0 d.2) w.4 in
            let same : b.0 ≡ h = one t.0.head b.0 h b.2 own in
            inr (w.0, d.0, w.2, d.1, subst (InBody d.0) same b.1)
      ]
