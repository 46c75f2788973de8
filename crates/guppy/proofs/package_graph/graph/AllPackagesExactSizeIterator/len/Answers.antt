use Rattle.std.proofs.Common.{◌∙◌, sym}
use Rattle.guppy.proofs.IteratorLists.{packages_left-count}
use Rattle.guppy.proofs.package_graph.graph.AllPackagesExactSizeIterator.len.Goals as goal

pub returns-clause-value : goal.returns-clause-value
returns-clause-value c = c.len.ensures.value ∙ sym (packages_left-count c.args.self.now)
