-- What the answers so far include is initial, or in the closure's set.
use Rattle.std.proofs.Common.{◌≡◌, ◌⊎◌, ◌∙◌, ℕ, Bool, true, List, [], ◌∷◌, ◌++◌, length, refl, arith, sym, ap, subst, inl, inr, Some, slice_get, IsSomeAnd}
use Rattle.std.proofs.Math.ListN.{length-replicate}
use Rattle.std.proofs.lemmas.Fn.{chained_keeps}
use Rattle.std.proofs.lemmas.List.Elements.{Contains-push_cases}
use Rattle.guppy_search.specs.IxSet.{IsIn}
use Rattle.guppy_search.specs.declared.ix.direction.DependencyDirection.{DependencyDirection}
use Rattle.guppy_search.specs.declared.graph_core.link.Link.{Link}
use Rattle.guppy_search.specs.Links.{near_end, far_end}
use Rattle.guppy_search.specs.Resolve.{LeavesOne, IsIncluded}
use Rattle.guppy_graph.specs.Graph.{GraphData}
use Rattle.guppy.specs.Views.{LinkData}
use Rattle.guppy_tests.proofs.visitors.over_even_links.Goals as goal

-- one more answer: the set keeps what it has, and gets the far end of a link that is accepted
next_included : {E : Type 0} (d : DependencyDirection) (links : List (Link E)) (initials : List Bool) (trace : List (ℕ × Bool)) (entry : ℕ × Bool) (was now : List Bool)
    (kept : (p : ℕ) → IsIn was p → IsIn now p) (followed : entry.1 ≡ true → IsSomeAnd (slice_get links entry.0) (λ l. IsIn now (far_end d l)))
    → ((p : ℕ) → IsIncluded d links initials trace p → IsIn initials p ⊎ IsIn was p)
    → (p : ℕ) → IsIncluded d links initials (trace ++ entry ∷ []) p → IsIn initials p ⊎ IsIn now p
next_included d links initials trace entry was now kept followed before p h = elim h [
  | inl i ↦ inl i
  | inr m ↦ elim (Contains-push_cases trace entry (m.0, true) m.2) [
    | inl c ↦ elim (before p (inr (m.0, m.1, c, m.3, m.4))) [ inl i ↦ inl i | inr i ↦ inr (kept p i) ]
    | inr e ↦
        let found : slice_get links entry.0 ≡ Some m.1 = ap (λ (x : ℕ × Bool). slice_get links x.0) e ∙ m.3 in
        let there = rw found at (followed (ap (λ (x : ℕ × Bool). x.1) e)) in
        inr (subst (IsIn now) m.4 there)
  ]
]

pub resolve_with_fn-requires : goal.resolve_with_fn-requires
resolve_with_fn-requires c κs =
    let q = c.args.query in (
      (refl, tt),
      record {
        at = λ earlier now n once in_time steps leaves new below cx link same_query same_link.
            let kept = chained_keeps _
            (λ trace state. ((p : ℕ) → IsIncluded q.direction q.graph.links q.initials trace p → IsIn q.initials p ⊎ IsIn state.0.now p) × (length state.0.now ≡ length q.graph.packages))
            (λ trace state entry next j k. (
              next_included q.direction q.graph.links q.initials trace entry state.0.now next.0.now k.2.met.1.1.1.0
                  (rw k.3 at (subst (λ (d : LinkData). entry.1 ≡ true → IsSomeAnd (slice_get d.graph.links d.number) (λ l. IsIn next.0.now (far_end k.0.now.direction l))) k.4 k.2.met.1.1.1.1)) j.0,
              k.2.met.1.1.0 ∙ j.1,
            ))
            earlier _ now
            (λ p h. elim h [ inl i ↦ inl i | inr m ↦ let none = m.2.1 in absurd (omega arith) ], ap (λ (l : List Bool). length l) c.in_ok-led_to.ensures ∙ (length-replicate _ _ ∙ (c.package_count.ensures ∙ ap (λ (g : GraphData). length g.packages) c.graph-graph.ensures))) steps in
            let may : IsIn q.initials (near_end q.direction leaves.0) ⊎ IsIn now.0.now (near_end q.direction leaves.0) = kept.0 (near_end q.direction leaves.0) leaves.2 in
            rw same_query (
              subst (λ (d : LinkData). LeavesOne q.direction d.graph.links (λ p. IsIn q.initials p ⊎ IsIn now.0.now p) d.number) (sym same_link) (leaves.0, leaves.1, may),
              subst (λ (d : LinkData). length now.0.now ≡ length d.graph.packages) (sym same_link) kept.1,
            );
      },
    )
