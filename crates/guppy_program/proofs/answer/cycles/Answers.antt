use Rattle.std.proofs.Common.{◌≡◌, ◌∙◌, ◌↔◌, ap, subst, ℕ, List, Bor, map}
use Rattle.std.specs.declared.alloc.Global.{Global}
use Rattle.std.specs.Prelude.{Vec}
use Rattle.guppy_graph.specs.Cycles.{AreCyclic, AreOnOne}
use Rattle.guppy_graph.specs.Graph.{GraphData, IsInOrder}
use Rattle.guppy.specs.ListedCycles.{cycle_left, cycles_left, cycles_of}
use Rattle.guppy_print.specs.Answer.{package_rows}
use Rattle.guppy_dot.proofs.GivenIds.{all_given}
use Rattle.guppy_program.proofs.PackageLists.{seen_push}
use Rattle.guppy_program.proofs.answer.cycles.Goals as goal

pub loop-cycle-preserved : goal.loop-cycle-preserved
loop-cycle-preserved c = seen_push (λ (row : Vec (Bor (List ℕ)) Global). map (λ id. id.now) row.items) cycle_left c.loop-cycle.rows.items c.push.new.self.items c.loop-cycle.yielded _ c.in-Some.cycle
    c.in_ok-push.ensures.items c.loop-cycle.invariant c.in_ok-row_of.ensures

pub returns-clause-ok : goal.returns-clause-ok
returns-clause-ok c =
    let items = c.all_cycles-cycle-items.result in
    let gave = rw c.into_iter-cycle-iterator.ensures.into_iter_gives at c.loop-cycle.yielded_by in
    let all = all_given cycle_left cycles_left items _ c.next.new.self _ gave c.in-None.ensures.steps in
    let left : cycles_left items ≡ cycles_of c.args.graph.now = c.all_cycles-cycle-items.ensures.left ∙ ap (λ (g : Bor GraphData). cycles_of g.now) c.cycles.ensures in
    record {
      ordered = subst (λ (g : Bor GraphData). IsInOrder g.now) c.cycles.ensures c.all_cycles-cycle-items.ensures.ordered;
      common = λ a b. subst (λ cycles. AreOnOne cycles a b ↔ AreCyclic c.args.graph.now a b) left
          (subst (λ (g : Bor GraphData). AreOnOne (cycles_left items) a b ↔ AreCyclic g.now a b) c.cycles.ensures (c.all_cycles-cycle-items.ensures.common a b));
      told = ap package_rows (c.loop-cycle.invariant ∙ all ∙ left);
    }
