use Rattle.guppy.proofs.set.laws.resolved_sets_are_whole.Goals as goal

pub returns : goal.returns
returns c = λ d initials set plain. c.plain_resolve_holds_components.ensures d set.graph.links initials set.included plain
