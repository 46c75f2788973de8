use Rattle.std.proofs.Common.{◌∙◌, ◌<◌, map, All, ap, subst}
use Rattle.std.specs.Vec.Iter.{into_iter_items}
use Rattle.guppy_graph.specs.Ids.{ix_position}
use Rattle.guppy.specs.Query.{SetData}
use Rattle.guppy.specs.Views.{package_in}
use Rattle.guppy.specs.Rooted.{AreRootPackages}
use Rattle.guppy.proofs.SetRoots.{roots_within, packages_at_ixs}
use Rattle.guppy.proofs.set.PackageSet.root_packages.Goals as goal

pub invariant_of-result : goal.invariant_of-result
invariant_of-result c = record {
  in_graph = rw c.into_iter.ensures.rest (subst (λ n. All (λ ix. ix_position ix < n) c.in_ok-roots.roots.items) c.self.invariant (roots_within _ _ _ _ c.in_ok-roots.ensures.roots));
}

pub returns-clause-roots : goal.returns-clause-roots
returns-clause-roots c =
    let graph = c.self.inside.graph.now in
    let reach = rw (c.sccs.ensures.components, c.dep_graph.ensures.nodes, c.dep_graph.ensures.links) at c.in_ok-roots.ensures.reach in
    subst (λ (s : SetData). AreRootPackages c.args.direction s (map (λ ix. package_in graph (ix_position ix)) (into_iter_items c.into_iter.result))) c.self.view_is
    (map ix_position c.in_ok-roots.roots.items, reach graph.index c.sccs.ensures.graph.ordered.components_are, ap (map (λ ix. package_in graph (ix_position ix))) c.into_iter.ensures.rest ∙ packages_at_ixs graph c.in_ok-roots.roots.items)
