use Rattle.std.proofs.Common.{◌∙◌, sym, ap, subst, ◌<◌, ℕ, List, length, All}
use Rattle.std.specs.List.{filter}
use Rattle.std.proofs.lemmas.List.Elements.{All-head, All-rest}
use Rattle.guppy_graph.specs.Cycles.{is_cyclic_component}
use Rattle.guppy.proofs.CyclicComponents.{filter_skips}
use Rattle.guppy.proofs.cycles.first_cyclic.Goals as goal

pub is_cyclic_component-requires : goal.is_cyclic_component-requires
is_cyclic_component-requires c =
    let Below : List ℕ → Type 0 = All (λ p. p < length c.args.graph.now.packages) in
    All-head Below _ _ (subst (All Below) c.in-Some.ensures.steps c.loop-component.invariant.below)

pub loop-component-preserved : goal.loop-component-preserved
loop-component-preserved c =
    let Below : List ℕ → Type 0 = All (λ p. p < length c.args.graph.now.packages) in
    let passes = is_cyclic_component c.args.graph.now.links in
    let lacks = sym c.is_cyclic_component.ensures ∙ c.if-is_cyclic_component.false in
    record {
      same = sym (filter_skips passes _ c.next.new.self lacks) ∙ ap (filter passes) (sym c.in-Some.ensures.steps) ∙ c.loop-component.invariant.same;
      below = All-rest Below _ _ _ c.in-Some.ensures.steps c.loop-component.invariant.below;
    }

pub returns-then-is_cyclic_component-clause-below : goal.returns-then-is_cyclic_component-clause-below
returns-then-is_cyclic_component-clause-below c =
    All-rest (All (λ p. p < length c.args.graph.now.packages)) _ _ _ c.in-Some.ensures.steps c.loop-component.invariant.below

pub returns-then-is_cyclic_component-clause-found : goal.returns-then-is_cyclic_component-clause-found
returns-then-is_cyclic_component-clause-found c =
    let Below : List ℕ → Type 0 = All (λ p. p < length c.args.graph.now.packages) in
    All-head Below _ _ (subst (All Below) c.in-Some.ensures.steps c.loop-component.invariant.below)
