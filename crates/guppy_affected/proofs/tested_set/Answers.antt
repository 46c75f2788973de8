use Rattle.std.proofs.Common.{◌≡◌, ◌∙◌, ⊎_elim, inl, inr, ap, sym, map, string_bytes}
use Rattle.guppy_graph.specs.Graph.{GraphData}
use Rattle.guppy_graph.specs.Ids.{ids_of}
use Rattle.guppy.specs.Query.{SetData}
use Rattle.guppy_affected.specs.Tested.{AreTestedAfter}
use Rattle.guppy_affected.specs.Folders.{given_in}
use Rattle.guppy_affected.proofs.IdSets.{told}
use Rattle.guppy_affected.proofs.Iterators.{IfOk-along}
use Rattle.guppy_affected.proofs.tested_set.Goals as goal

pub union-requires : goal.union-requires
union-requires c =
    record { same_packages = ap (λ (g : GraphData). ids_of g.packages) (c.in_ok-touched.ensures.graph ∙ sym c.in_ok-named.ensures.graph) }

pub returns-clause-graph : goal.returns-clause-graph
returns-clause-graph c =
    IfOk-along c.tested_with.result _ (λ (set : SetData). set.graph ≡ c.args.graph.now)
    (λ tested same. same ∙ c.in_ok-both.ensures.graph ∙ c.in_ok-touched.ensures.graph) c.tested_with.ensures.graph

pub returns-clause-tested : goal.returns-clause-tested
returns-clause-tested c =
    let named = c.in_ok-named.ensures.members in
    IfOk-along c.tested_with.result _ (AreTestedAfter c.args.graph.now (told c.args.changed.now) (map string_bytes c.args.paths.now) (map string_bytes c.args.ignored.now)
    (given_in c.args.also.now))
    (λ tested are. (
      c.in_ok-touched.touched,
      c.in_ok-both.both,
      c.in_ok-both.ensures.graph ∙ c.in_ok-touched.ensures.graph,
      c.in_ok-touched.ensures.changed,
      λ p. (
        λ h. ⊎_elim (λ k. inl k) (λ k. inr ((named.members p).0 k)) ((c.in_ok-both.ensures.members p).0 h),
        λ h. (c.in_ok-both.ensures.members p).1 (⊎_elim (λ k. inl k) (λ k. inr ((named.members p).1 k)) h),
      ),
      are,
    )) c.tested_with.ensures.tested
