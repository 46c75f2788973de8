use Rattle.std.proofs.Common.{map, refl, subst}
use Rattle.std.proofs.lemmas.Option.{slice_get_within}
use Rattle.guppy_search.specs.Walked.{numbers_of}
use Rattle.guppy.specs.Query.{SetData}
use Rattle.guppy.specs.Views.{link_in}
use Rattle.guppy.specs.Walked.{AreWalkedLinks, AreLinksInside, IsWhole}
use Rattle.guppy.proofs.LinkNumbers.{seen_link}
use Rattle.guppy.proofs.set.PackageSet.links.Goals as goal

pub invariant_of-result : goal.invariant_of-result
invariant_of-result c =
    let ends = rw c.dep_graph.ensures.links at c.in_ok-rest.ensures.ends in
    record { in_graph = λ k d within. let link = ends k d within in slice_get_within _ _ _ link.1 }

pub returns-clause-walked : goal.returns-clause-walked
returns-clause-walked c =
    let graph = c.self.inside.graph.now in
    let numbers = numbers_of c.in_ok-rest.rest in
    let reach = rw (c.sccs.ensures.components, c.dep_graph.ensures.nodes, c.dep_graph.ensures.links) at c.in_ok-rest.ensures.reach in
    subst (λ (s : SetData). AreWalkedLinks c.args.direction s (map (link_in graph) numbers)) c.self.view_is
    (numbers, reach graph.index c.sccs.ensures.graph.ordered.components_are, refl)

pub returns-clause-all : goal.returns-clause-all
returns-clause-all c =
    let graph = c.self.inside.graph.now in
    let numbers = numbers_of c.in_ok-rest.rest in
    let all = rw (c.sccs.ensures.components, c.dep_graph.ensures.nodes, c.dep_graph.ensures.links) at c.in_ok-rest.ensures.all in
    subst (λ (s : SetData). IsWhole s → AreLinksInside s (map (link_in graph) numbers)) c.self.view_is
    (λ whole n. seen_link graph numbers n (all graph.index c.sccs.ensures.graph.ordered.components_are whole n))
