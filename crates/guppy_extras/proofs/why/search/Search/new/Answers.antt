use Rattle.std.proofs.Common.{◌≡◌, ◌<◌, ◌∙◌, ap, [], ◌∷◌, ◌++◌, length, set, true, None}
use Rattle.std.specs.Borrow.{Bor}
use Rattle.guppy_graph.specs.Graph.{GraphData}
use Rattle.guppy.specs.Views.{package_position, graph_packages}
use Rattle.guppy_extras.specs.declared.why.search.Found.{Found}
use Rattle.guppy_extras.proofs.PackageSteps.{under_way_first}
use Rattle.guppy_extras.proofs.why.search.Search.new.Goals as goal

pub returns-clause-under_way : goal.returns-clause-under_way
returns-clause-under_way c =
    let start = c.args.start in
    let count = c.package_count.result in
    let is_count : count ≡ length (graph_packages start) = c.package_count.ensures ∙ ap (λ (g : Bor GraphData). length g.now.packages) c.graph-graph.ensures in
    let own : package_position start < length (graph_packages start) = start.in_graph in
    let within : package_position start < count = rw is_count own in
    let is_seen = c.insert.ensures.after ∙ ap (λ p. set c.in_ok-seen.seen p true) c.package_ix.ensures ∙ ap (λ s. set s (package_position start) true) c.in_ok-seen.ensures in
    let first : Found = record { metadata = start; distance = 0; last = None } in
    under_way_first start c.push.new.self.items c.insert.new.self count is_count within (c.in_ok-push.ensures.items ∙ ap (λ xs. xs ++ first ∷ []) c.new-found.ensures.items) is_seen
