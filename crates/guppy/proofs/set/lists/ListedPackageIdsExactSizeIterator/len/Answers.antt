use Rattle.std.proofs.Common.{◌∙◌, sym}
use Rattle.guppy.proofs.SetLists.{listed_ids_left-count}
use Rattle.guppy.proofs.set.lists.ListedPackageIdsExactSizeIterator.len.Goals as goal

pub returns-clause-value : goal.returns-clause-value
returns-clause-value c = c.len.ensures.value ∙ sym (listed_ids_left-count c.args.self.now)
