use Rattle.std.proofs.Common.{◌<◌, ap, subst, sym, ℕ, All, Some, None, length, map}
use Rattle.std.specs.Slice.Iter.{iter_rest, iter_steps}
use Rattle.std.proofs.lemmas.List.Elements.{All-rest}
use Rattle.guppy_graph.specs.Ids.{ix_position}
use Rattle.guppy.proofs.cycles.CycleIdsIterator.next.Goals as goal

pub invariant_of-self : goal.invariant_of-self
invariant_of-self c =
    let old = c.args.self.now in
    let P : ℕ → Type 0 = λ p. p < length old.graph.now.packages in
    record {
      in_graph = (elim c.next.result as (λ r. iter_steps old.rest r c.next.new.self → All P (map ix_position (iter_rest c.next.new.self))) [
        | None ↦ λ h. subst (λ it. All P (map ix_position (iter_rest it))) (sym h.1) old.in_graph
        | Some x ↦ λ h. All-rest P _ _ _ (ap (map ix_position) h) old.in_graph
      ]) c.next.ensures.steps;
    }
