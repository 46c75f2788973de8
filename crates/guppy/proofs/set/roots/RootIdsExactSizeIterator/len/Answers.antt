use Rattle.std.proofs.Common.{◌∙◌, sym}
use Rattle.guppy.proofs.SetLists.{root_ids_left-count}
use Rattle.guppy.proofs.set.roots.RootIdsExactSizeIterator.len.Goals as goal

pub returns-clause-value : goal.returns-clause-value
returns-clause-value c = c.len.ensures.value ∙ sym (root_ids_left-count c.args.self.now)
