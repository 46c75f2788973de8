use Rattle.std.proofs.Common.{◌≡◌, take}
use Rattle.std.specs.List.{AllZip}
use Rattle.guppy_graph.specs.Ids.{ix_position}
use Rattle.guppy.proofs.workspace.Workspace.members_at.Given as goal

abbrev pub invariant-loop-ix : goal.invariant-loop-ix
invariant-loop-ix l = AllZip (λ ix m. (m.graph ≡ l.self.graph) × (m.position ≡ ix_position ix)) (take l.ix-index l.ixs) l.members.items
