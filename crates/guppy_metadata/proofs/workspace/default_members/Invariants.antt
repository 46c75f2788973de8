use Rattle.std.proofs.Common.{◌≡◌, map, take}
use Rattle.guppy_metadata.proofs.workspace.default_members.Given as goal

abbrev pub invariant-loop-text : goal.invariant-loop-text
invariant-loop-text l = l.ids.items ≡ map (λ text. text.now) (take l.text-index l.text-items)
