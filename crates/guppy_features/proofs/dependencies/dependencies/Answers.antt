use Rattle.std.proofs.Common.{◌≡◌, ◌++◌, ◌∙◌, ap, sym, take}
use Rattle.std.specs.List.{flat_map}
use Rattle.std.proofs.lemmas.List.{take_all}
use Rattle.guppy_search.specs.declared.ix.direction.DependencyDirection.TheVariants.{Forward}
use Rattle.guppy_search.specs.Links.{links_at, seen_link}
use Rattle.guppy_features.specs.Dependencies.{dependencies_of}
use Rattle.guppy_features.proofs.LeavingLinks.{dependencies_at, dependencies_by_number, dependencies_more}
use Rattle.guppy_features.proofs.dependencies.dependencies.Goals as goal

pub loop-number-preserved : goal.loop-number-preserved
loop-number-preserved c =
    let links = c.args.graph.now.links in
    let numbers = c.links_of-number-items.result.now in
    record {
      gathered = c.in_ok-add_link.ensures.added
          ∙ ap (λ front. front ++ dependencies_of (seen_link c.link_at.result)) c.loop-number.invariant.gathered
          ∙ sym (dependencies_more links numbers c.loop-number.number-index (seen_link c.link_at.result) c.loop-number-test.true c.link_at.ensures.at);
      within = c.add_link.ensures.within _ c.link_at.ensures.from c.link_at.ensures.to c.loop-number.invariant.within;
    }

pub returns-clause-dependencies : goal.returns-clause-dependencies
returns-clause-dependencies c =
    let g = c.args.graph.now in
    let numbers = c.links_of-number-items.result.now in
    let all : take c.loop-number.number-index numbers ≡ numbers = take_all _ numbers c.loop-number-test.false in
    let are : numbers ≡ links_at Forward g.links c.args.position = cc in
    c.loop-number.invariant.gathered ∙ ap (flat_map (dependencies_at g.links)) (all ∙ are) ∙ dependencies_by_number g c.args.position
