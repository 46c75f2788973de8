use Rattle.std.proofs.Common.{◌<◌, length}
use Rattle.guppy.proofs.SliceRests.{remaining}
use Rattle.guppy.proofs.metadata.links.PackageLinksIterator.next.Goals as goal

pub invariant_of-self : goal.invariant_of-self
invariant_of-self c =
    let old = c.args.self.now in
    record { in_graph = remaining (λ n. n < length old.graph.now.links) old.rest c.next.new.self c.next.result c.next.ensures.steps old.in_graph }
