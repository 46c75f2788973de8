use Rattle.std.proofs.Common.{◌≡◌, ◌<◌, List, ◌∷◌, length, ap, subst, sym, ◌∙◌, arith}
use Rattle.std.specs.Prelude.{map, All}
use Rattle.std.specs.Vec.Iter.{into_iter_items}
use Rattle.std.proofs.lemmas.List.{length-map}
use Rattle.std.proofs.lemmas.List.Elements.{All-rest}
use Rattle.guppy_search.specs.declared.graph_core.link.Link.{Link}
use Rattle.guppy_search.specs.Links.{seen_link}
use Rattle.guppy_search.specs.Walked.{ends_at}
use Rattle.guppy_search.specs.declared.ix.direction.DependencyDirection.TheVariants.{Forward, Reverse}
use Rattle.guppy_search.proofs.SearchSteps.{far_end_below}
use Rattle.guppy_search.proofs.Ends.{ends_at-found}
use Rattle.guppy_search.proofs.walk.edge_dfs.EdgeDfsIterator.next.Goals as goal

pub invariant_of-self-2 : goal.invariant_of-self-2
invariant_of-self-2 g c =
    All-rest (λ n. n < length c.self.inside.graph.now.links) c.in_ok-number.number (into_iter_items c.next.new.self) (into_iter_items c.self.inside.numbers) c.in_ok-number.ensures.items c.self.invariant

pub returns-clause-steps : goal.returns-clause-steps
returns-clause-steps g c =
    let links : List (Link g.row.G-Edge.Denot) = c.self.inside.graph.now.links in
    sym c.self.view_is ∙ (ap (map (ends_at links)) c.in_ok-number.ensures.items
    ∙ rw (ends_at-found links c.in_ok-number.number (seen_link c.link-link.result) c.link-link.ensures.link, c.new.ensures, c.new-2.ensures))

pub invariant_of-self : goal.invariant_of-self
invariant_of-self g c = subst (λ l. All (λ n. n < length c.self.inside.graph.now.links) l) c.in_err-number.ensures.items c.self.invariant

pub link-link-requires : goal.link-link-requires
link-link-requires g c = subst (λ l. All (λ n. n < length c.self.inside.graph.now.links) l) c.in_ok-number.ensures.items c.self.invariant 0 0 (omega arith)

pub new-requires : goal.new-requires
new-requires g c =
    let below = far_end_below Reverse c.self.inside.graph.now.links (length c.self.inside.graph.now.nodes) c.in_ok-number.number (seen_link c.link-link.result) c.link-link.ensures.link c.link-link.ensures.graph.ends in
    let few = c.link-link.ensures.graph.few_nodes in
    omega arith

pub new-requires-2 : goal.new-requires-2
new-requires-2 g c =
    let below = far_end_below Forward c.self.inside.graph.now.links (length c.self.inside.graph.now.nodes) c.in_ok-number.number (seen_link c.link-link.result) c.link-link.ensures.link c.link-link.ensures.graph.ends in
    let few = c.link-link.ensures.graph.few_nodes in
    omega arith

pub returns-clause-goes : goal.returns-clause-goes
returns-clause-goes g c =
    let links : List (Link g.row.G-Edge.Denot) = c.self.inside.graph.now.links in
    let old : length c.args.self.now ≡ length (into_iter_items c.self.inside.numbers) = ap length (sym c.self.view_is) ∙ length-map (into_iter_items c.self.inside.numbers) (ends_at links) in
    let new = length-map (into_iter_items c.next.new.self) (ends_at links) in
    let step : length (into_iter_items c.self.inside.numbers) ≡ length (c.in_ok-number.number ∷ into_iter_items c.next.new.self) = ap length c.in_ok-number.ensures.items in
    let less : length (map (ends_at links) (into_iter_items c.next.new.self)) < length c.args.self.now = omega arith in
    record { on = λ finite. (tt, tt, less); keeps = tt; rests = λ finite. tt }
