use Rattle.std.proofs.Common.{◌≡◌, ◌∙◌, refl, sym, ap, subst, true, false, Bor}
use Rattle.std.specs.List.{find}
use Rattle.guppy_search.specs.declared.ix.direction.DependencyDirection.TheVariants.{Forward}
use Rattle.guppy_search.specs.Links.{links_at}
use Rattle.guppy_graph.specs.Graph.{GraphData}
use Rattle.guppy.specs.DirectLinks.{links_left}
use Rattle.guppy.specs.Views.{graph_of, link_number, package_position}
use Rattle.guppy_extras.proofs.LeavingLinks.{next_of, none_left}
use Rattle.guppy_program.specs.Publish.{is_hindrance_at}
use Rattle.guppy_program.proofs.Hindrances.{found_first, found_later}
use Rattle.guppy_program.proofs.publish.hindrance_of.Goals as goal

pub links-init : goal.links-init
links-init c =
    let g = graph_of c.args.metadata in
    record {
      left = links_at Forward g.now.links (package_position c.args.metadata);
      left_is = ap links_left c.into_iter-link-iterator.ensures.into_iter_gives ∙ c.direct_links-link-items.ensures;
      same = refl;
    }

pub links-preserved : goal.links-preserved
links-preserved c =
    let g = graph_of c.args.metadata in
    let now = c.links.invariant in
    let next = next_of g now.left c.in-Some.link _ (sym now.left_is ∙ c.in-Some.ensures.steps) in
    let fails = subst (λ (h : Bor GraphData). is_hindrance_at h.now (link_number c.in-Some.link) ≡ false) next.graph (sym c.is_hindrance.ensures ∙ c.if-is_hindrance.false) in
    record {
      left = next.more;
      left_is = next.rest_is;
      same = now.same ∙ ap (find (is_hindrance_at g.now)) next.numbers ∙ found_later (is_hindrance_at g.now) (link_number c.in-Some.link) next.more fails;
    }

pub returns-then-is_hindrance : goal.returns-then-is_hindrance
returns-then-is_hindrance c =
    let g = graph_of c.args.metadata in
    let now = c.links.invariant in
    let next = next_of g now.left c.in-Some.link _ (sym now.left_is ∙ c.in-Some.ensures.steps) in
    let passes = subst (λ (h : Bor GraphData). is_hindrance_at h.now (link_number c.in-Some.link) ≡ true) next.graph (sym c.is_hindrance.ensures ∙ c.if-is_hindrance.true) in
    record {
      number = now.same ∙ ap (find (is_hindrance_at g.now)) next.numbers ∙ found_first (is_hindrance_at g.now) (link_number c.in-Some.link) next.more passes;
      graph = next.graph;
    }

pub returns : goal.returns
returns c =
    let g = graph_of c.args.metadata in
    let now = c.links.invariant in
    let none = none_left g now.left (sym now.left_is ∙ c.in-None.ensures.steps.0) in
    record { number = now.same ∙ ap (find (is_hindrance_at g.now)) none; graph = tt }
