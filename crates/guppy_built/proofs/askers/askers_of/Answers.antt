use Rattle.std.proofs.Common.{◌∙◌, List, ℕ, ap, sym, subst}
use Rattle.std.specs.Prelude.{◌↔◌, Contains}
use Rattle.std.specs.List.{filter_map}
use Rattle.std.proofs.lemmas.Bool.{eqb-true}
use Rattle.std.proofs.lemmas.Result.{IfOk-weaker}
use Rattle.guppy_graph.specs.Graph.{GraphData}
use Rattle.guppy_features.specs.declared.reason.Reason.{Reason}
use Rattle.guppy_built.specs.Features.{id_at, needed_positions}
use Rattle.guppy_built.proofs.Seen.{same_elements}
use Rattle.guppy_built.proofs.askers.askers_of.Goals as goal

pub returns : goal.returns
returns c =
    let ways = c.in_ok-ways.ways.items in
    let needed = c.in_ok-needed_positions.field-0.items in
    let positions = c.new-positions.result in
    IfOk-weaker c.ids_at.result _ _ (λ ids is. record {
      ways = ways;
      exact = c.in_ok-ways.ensures;
      positions = positions;
      order = c.new-positions.ensures.sorted;
      same = λ p. subst (λ (all : List ℕ). Contains positions p ↔ Contains all p)
          (c.in_ok-needed_positions.ensures ∙ ap (λ (all : List Reason). needed_positions all) c.as_slice.ensures.value)
          (same_elements _ needed positions eqb-true c.new-positions.ensures.kept p);
      ids = is ∙ ap (filter_map (id_at c.args.graph.now)) c.as_slice-2.ensures.items ∙ ap (λ (g : GraphData). filter_map (id_at g) positions) (sym c.requires);
    }) c.ids_at.ensures
