use Rattle.std.proofs.Common.{All, take}
use Rattle.std.specs.List.{AllZip}
use Rattle.guppy_graph.specs.Ids.{HasId, IsKnown}
use Rattle.guppy_changes.proofs.rows.member_ids.Given as goal

abbrev pub invariant-loop-position : goal.invariant-loop-position
invariant-loop-position l = record {
  named : AllZip (λ p id. HasId l.graph.packages id p) (take l.position-index l.position-items) l.ids.items;
  known : All (IsKnown l.graph.packages) l.ids.items;
}
