use Rattle.std.proofs.Common.{◌∙◌, refl}
use Rattle.guppy.proofs.EqualLists.{same_ids-decided}
use Rattle.guppy.proofs.set.equal.PackageMetadataPartialEq.eq.Goals as goal

pub returns-then-same_packages : goal.returns-then-same_packages
returns-then-same_packages c =
    rw (same_ids-decided c.args.self.now.graph.now.packages c.args.other.now.graph.now.packages c.same_packages.result c.same_packages.ensures ∙ c.if-same_packages.true) refl

pub returns-else-same_packages : goal.returns-else-same_packages
returns-else-same_packages c =
    rw (same_ids-decided c.args.self.now.graph.now.packages c.args.other.now.graph.now.packages c.same_packages.result c.same_packages.ensures ∙ c.if-same_packages.false) c.if-same_packages.false
