use Rattle.std.proofs.Common.{◌≡◌, [], ◌∷◌, All, ◌<◌, ℕ, length, subst, sym, arith, Some, None}
use Rattle.std.specs.Prelude.{MatchOption}
use Rattle.std.proofs.lemmas.List.Elements.{All-tail}
use Rattle.guppy_graph.specs.Ids.{ix_position}
use Rattle.guppy.proofs.set.lists.ListedPackagesIterator.next.Goals as goal

pub invariant_of-self : goal.invariant_of-self
invariant_of-self c =
    let old = c.args.self.now in
    let new = c.next.new.self in
    let P : ℕ → Type 0 = λ p. p < length old.graph.now.packages in
    record {
      in_graph = (elim c.next.result as (λ r. MatchOption r ((old.rest ≡ []) × (new ≡ [])) (λ ix. old.rest ≡ ix_position ix ∷ new) → All P new) [
        | None ↦ λ h. subst (All P) (sym h.1) (λ k d within. absurd (omega arith))
        | Some ix ↦ λ h. All-tail P (ix_position ix) _ (subst (All P) h old.in_graph)
      ]) c.next.ensures.steps;
    }
