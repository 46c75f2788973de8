use Rattle.std.proofs.Common.{◌≡◌, ◌++◌, ◌<◌, All, length, subst, Some, None}
use Rattle.std.specs.Option.{option_to_list}
use Rattle.std.specs.Vec.Iter.{into_iter_items}
use Rattle.std.proofs.lemmas.List.Elements.{All-tail}
use Rattle.guppy_search.specs.declared.ix.index_type.PackageIx.{PackageIx}
use Rattle.guppy_graph.specs.Ids.{ix_position}
use Rattle.guppy.proofs.set.roots.RootPackagesIterator.next.Goals as goal

pub invariant_of-self : goal.invariant_of-self
invariant_of-self c =
    let old = c.args.self.now in
    let left = into_iter_items c.next.new.self in
    let P : PackageIx → Type 0 = λ ix. ix_position ix < length old.graph.now.packages in
    record {
      in_graph = (elim c.next.result as (λ r. into_iter_items old.rest ≡ option_to_list r ++ left → All P left) [
        | None ↦ λ e. subst (All P) e old.in_graph
        | Some ix ↦ λ e. All-tail P ix left (subst (All P) e old.in_graph)
      ]) c.next.ensures.items;
    }
