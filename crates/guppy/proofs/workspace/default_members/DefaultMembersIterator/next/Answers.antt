use Rattle.guppy_graph.specs.Ids.{IsKnown}
use Rattle.guppy_graph.proofs.PackageIds.{within_of}
use Rattle.guppy.proofs.SliceRests.{remaining}
use Rattle.guppy.proofs.workspace.default_members.DefaultMembersIterator.next.Goals as goal

pub invariant_of-self : goal.invariant_of-self
invariant_of-self c =
    let old = c.args.self.now in
    record { known = remaining (λ id. ¬ (¬ IsKnown old.graph.now.packages id)) old.rest c.next.new.self c.next.result c.next.ensures.steps old.known }

pub invariant_of-result : goal.invariant_of-result
invariant_of-result c = record { in_graph = within_of _ _ _ c.in-Some-position_of_id.ensures }
