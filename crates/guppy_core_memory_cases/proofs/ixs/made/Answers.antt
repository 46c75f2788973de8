use Rattle.std.proofs.Common.{◌<◌, All, rules, subst, sym}
use Rattle.guppy_search.specs.declared.ix.index_type.PackageIx.{PackageIx}
use Rattle.guppy_search.proofs.IteratorItems.{holds_copied}
use Rattle.guppy_core_memory_cases.proofs.ixs.made.Goals as goal

pub from_ixs-requires-clause-below : goal.from_ixs-requires-clause-below
from_ixs-requires-clause-below c =
    let below : All (λ (x : PackageIx). x.0 < c.node_count.result) c.args.ixs.now =
    subst (λ n. All (λ (x : PackageIx). x.0 < n) c.args.ixs.now) (sym c.node_count.ensures.count) c.requires in
    holds_copied (λ (x : PackageIx). x.0 < c.node_count.result) c.args.ixs.now c.copied.result (search rules) below
