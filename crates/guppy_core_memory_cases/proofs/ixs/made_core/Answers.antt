use Rattle.std.proofs.Common.{◌<◌, length, rules}
use Rattle.guppy_search.specs.declared.ix.index_type.PackageIx.{PackageIx}
use Rattle.guppy_search.proofs.IteratorItems.{holds_copied}
use Rattle.guppy_core_memory_cases.proofs.ixs.made_core.Goals as goal

pub from_ixs-requires-clause-below : goal.from_ixs-requires-clause-below
from_ixs-requires-clause-below c = holds_copied (λ (x : PackageIx). x.0 < length c.args.graph.now.nodes) c.args.ixs.now c.copied.result (search rules) c.requires
