use Rattle.std.proofs.Common.{◌<◌, length}
use Rattle.guppy.proofs.SliceRests.{remaining}
use Rattle.guppy.proofs.workspace.members.MembersIterator.next.Goals as goal

pub invariant_of-self : goal.invariant_of-self
invariant_of-self c =
    let old = c.args.self.now in
    record { in_graph = remaining (λ p. p < length old.graph.now.packages) old.rest c.next.new.self c.next.result c.next.ensures.steps old.in_graph }
