use Rattle.std.proofs.Common.{◌<◌, rules}
use Rattle.guppy_search.specs.declared.ix.index_type.PackageIx.{PackageIx}
use Rattle.guppy_search.proofs.IteratorItems.{holds_copied}
use Rattle.guppy_core_tests.proofs.graphs.of_ixs.Goals as goal

pub from_ixs-requires-clause-below : goal.from_ixs-requires-clause-below
from_ixs-requires-clause-below c = holds_copied (λ (x : PackageIx). x.0 < c.args.count) c.args.ixs.now c.copied.result (search rules) c.requires
