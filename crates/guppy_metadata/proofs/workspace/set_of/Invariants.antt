use Rattle.std.proofs.Common.{◌≡◌, ℕ, List, map, take}
use Rattle.guppy_metadata.specs.Members.{is_among, is_in_set}
use Rattle.guppy_metadata.proofs.workspace.set_of.Given as goal

abbrev pub invariant-loop-id : goal.invariant-loop-id
invariant-loop-id l = (text : List ℕ) → is_in_set l.set text ≡ is_among (map (λ id. id.now) (take l.id-index l.ids)) text
