use Rattle.std.proofs.Common.{subst}
use Rattle.guppy_search.specs.declared.ix.direction.DependencyDirection.TheVariants.{Forward}
use Rattle.guppy_search.specs.Reach.{LinkStep, Walk}
use Rattle.guppy_graph.specs.Ids.{ix_position}
use Rattle.guppy_graph.specs.Accepted.{distinct_ids}
use Rattle.guppy_graph.proofs.PackageIds.{position_is}
use Rattle.guppy.proofs.package_graph.depends_cache.DependsCache.depends_on.Goals as goal

pub returns-clause-answer : goal.returns-clause-answer
returns-clause-answer c =
    let g = c.self.inside.graph.now in
    let a = c.args.a.now in
    let b = c.args.b.now in
    let p = ix_position c.in_ok-from.from in
    let q = ix_position c.in_ok-from.to in
    let has = c.in_ok-from.ensures in
    let walks = rw c.dep_graph.ensures.links at c.reaches.ensures.answer in
    rw (← c.self.view_is) (
      λ yes_. (p, q, has.first, has.second, walks.0 yes_),
      λ d.
          let from = position_is g.packages (has.graph.accepted distinct_ids) a d.0 p d.2 has.first in
          let to = position_is g.packages (has.graph.accepted distinct_ids) b d.1 q d.3 has.second in
          walks.1 (subst (λ s. Walk (LinkStep Forward g.links) s q) from (subst (λ t. Walk (LinkStep Forward g.links) d.0 t) to d.4)),
    )
