use Rattle.std.proofs.Common.{◌≡◌, [], ◌∷◌, All, ◌<◌, length, subst, sym, arith, Some, None}
use Rattle.std.specs.Prelude.{MatchOption}
use Rattle.std.proofs.lemmas.List.Elements.{All-tail}
use Rattle.guppy_search.specs.Walked.{LinkEnds}
use Rattle.guppy_graph.specs.Ids.{ix_position}
use Rattle.guppy.proofs.set.links.WalkedLinksIterator.next.Goals as goal

pub invariant_of-self : goal.invariant_of-self
invariant_of-self c =
    let old = c.args.self.now in
    let new = c.next.new.self in
    let P : LinkEnds → Type 0 = λ l. l.number < length old.graph.now.links in
    record {
      in_graph = (elim c.next.result as (λ r. MatchOption r ((old.rest ≡ []) × (new ≡ [])) (λ l. old.rest ≡ (record { from = ix_position l.0; to = ix_position l.1; number = l.2 }) ∷ new) → All P new) [
        | None ↦ λ h. subst (All P) (sym h.1) (λ k d within. absurd (omega arith))
        | Some l ↦ λ h. All-tail P (record { from = ix_position l.0; to = ix_position l.1; number = l.2 }) _ (subst (All P) h old.in_graph)
      ]) c.next.ensures.steps;
    }

pub invariant_of-result : goal.invariant_of-result
invariant_of-result c =
    let old = c.args.self.now in
    let P : LinkEnds → Type 0 = λ l. l.number < length old.graph.now.links in
    let all = subst (All P) c.in-Some.ensures.steps old.in_graph in
    record { in_graph = all 0 (record { from = 0; to = 0; number = 0 }) (omega arith) }
