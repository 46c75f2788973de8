use Rattle.std.proofs.Common.{◌≡◌, ◌∙◌, ap, subst, [], ◌∷◌, ◌++◌, Bor, map}
use Rattle.std.proofs.lemmas.List.{map_push}
use Rattle.guppy_graph.specs.Graph.{GraphData}
use Rattle.guppy.specs.Views.{link_graph, link_number}
use Rattle.guppy_print.specs.Shown.{step_shown}
use Rattle.guppy_program.specs.Steps.{LeadsTo}
use Rattle.guppy_command.proofs.FirstItems.{fits_with}
use Rattle.guppy_program.proofs.why.steps_along.Goals as goal

pub loop-link-preserved : goal.loop-link-preserved
loop-link-preserved c =
    let g = c.args.graph.now in
    let k = c.loop-link.link-index in
    let was = c.loop-link.invariant in
    let link = c.link-item.result in
    let step = step_shown c.step_over.result in
    let of_graph : link_graph link ≡ c.args.graph = rw c.link-item.is (c.requires.of_graph k link c.loop-link-test.true) in
    let leads = subst (λ (h : Bor GraphData). LeadsTo h.now (link_number link) step) of_graph c.step_over.ensures in
    record {
      behind = was.behind ++ step ∷ [];
      led = fits_with link_number c.args.walk.now k link link c.loop-link-test.true c.link-item.is (LeadsTo g) was.behind step was.led leads;
      steps_are = ap (map step_shown) c.in_ok-push-2.ensures.items ∙ map_push step_shown c.loop-link.steps.items c.step_over.result ∙ ap (λ l. l ++ step ∷ []) was.steps_are;
    }
