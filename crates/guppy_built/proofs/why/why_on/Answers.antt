use Rattle.std.proofs.Common.{◌≡◌, ◌∙◌, Some, ap, sym, subst}
use Rattle.std.specs.List.{filter_map}
use Rattle.guppy_graph.specs.Graph.{GraphData}
use Rattle.guppy_features.specs.Facts.{feature_fact}
use Rattle.guppy_features.specs.Questions.{Question}
use Rattle.guppy_built.specs.Names.{named_step}
use Rattle.guppy_built.proofs.why.why_on.Goals as goal

pub returns-in_ok-named_steps-in-Some-2 : goal.returns-in_ok-named_steps-in-Some-2
returns-in_ok-named_steps-in-Some-2 c =
    let fact = c.in-Some.fact in
    let reasons = c.in-Some-2.reasons.items in
    record {
      fact = fact;
      is = subst (λ (q : Question). feature_fact q.graph.packages c.args.position c.args.side c.args.name.now ≡ Some fact) c.asked.ensures (sym c.feature.ensures ∙ c.in-Some.is);
      steps_are = record {
        reasons = reasons;
        order = rw c.in-Some-2.is at c.in_ok-reasons.ensures.order;
        last = rw c.in-Some-2.is at c.in_ok-reasons.ensures.last;
        needed = rw c.in-Some-2.is at c.in_ok-reasons.ensures.needed;
        told = c.in_ok-named_steps-in-Some-2.ensures ∙ ap (filter_map (named_step c.args.graph.now)) c.as_slice.ensures.value
            ∙ ap (λ (g : GraphData). filter_map (named_step g) reasons) (sym c.requires.graph);
      };
    }
