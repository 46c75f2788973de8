use Rattle.std.proofs.Common.{◌∙◌, sym, ap, ◌<◌, ℕ, List, length, All, Some, map}
use Rattle.std.specs.List.{filter}
use Rattle.std.proofs.lemmas.List.Elements.{All-pop}
use Rattle.guppy_graph.specs.Cycles.{is_cyclic_component}
use Rattle.guppy_graph.specs.Ids.{ix_position}
use Rattle.guppy.proofs.CyclicComponents.{filter_skips_last}
use Rattle.guppy.proofs.cycles.last_cyclic.Goals as goal

pub is_cyclic_component-requires : goal.is_cyclic_component-requires
is_cyclic_component-requires c =
    let Below : List ℕ → Type 0 = All (λ p. p < length c.args.graph.now.packages) in
    (All-pop Below _ c.next_back.new.self (Some (map ix_position c.in-Some.component.now)) c.in-Some.ensures.steps c.loop-component.invariant.below).1

pub loop-component-preserved : goal.loop-component-preserved
loop-component-preserved c =
    let Below : List ℕ → Type 0 = All (λ p. p < length c.args.graph.now.packages) in
    let passes = is_cyclic_component c.args.graph.now.links in
    let lacks = sym c.is_cyclic_component.ensures ∙ c.if-is_cyclic_component.false in
    record {
      same = sym (filter_skips_last passes _ c.next_back.new.self lacks) ∙ ap (filter passes) (sym c.in-Some.ensures.steps) ∙ c.loop-component.invariant.same;
      below = (All-pop Below _ c.next_back.new.self (Some (map ix_position c.in-Some.component.now)) c.in-Some.ensures.steps c.loop-component.invariant.below).0;
    }
