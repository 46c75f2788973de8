use Rattle.std.proofs.Common.{◌∙◌, ap, sym, subst, ◌<◌, length, map, All}
use Rattle.std.specs.List.{filter}
use Rattle.guppy_search.specs.declared.ix.direction.DependencyDirection.TheVariants.{Forward}
use Rattle.guppy_search.specs.Reach.{LinkStep}
use Rattle.guppy_graph.specs.Cycles.{AreOnOne, is_cyclic_component}
use Rattle.guppy.specs.Listed.{ids_at}
use Rattle.guppy_graph.proofs.OnCycles.{blocks_below}
use Rattle.guppy.proofs.CyclicComponents.{cyclic_from_listed, listed_from_cyclic}
use Rattle.guppy.proofs.cycles.Cycles.all_cycles.Goals as goal

pub invariant_of-result : goal.invariant_of-result
invariant_of-result c =
    let g = c.args.self.graph.now in
    record {
      in_graph = subst (All (All (λ p. p < length g.packages))) (sym (c.all_sccs.ensures ∙ c.sccs.ensures.components))
          (blocks_below (LinkStep Forward g.links) (length g.packages) g.index g.components c.sccs.ensures.graph.ordered.components_are);
    }

pub returns-clause-common : goal.returns-clause-common
returns-clause-common c a b =
    let g = c.args.self.graph.now in
    let listed = ap (λ blocks. map (ids_at g.packages) (filter (is_cyclic_component g.links) blocks)) (c.all_sccs.ensures ∙ c.sccs.ensures.components) in (
      λ h. cyclic_from_listed g c.sccs.ensures.graph a b (subst (λ cycles. AreOnOne cycles a b) listed h),
      λ h. subst (λ cycles. AreOnOne cycles a b) (sym listed) (listed_from_cyclic g c.sccs.ensures.graph a b h),
    )
