use Rattle.std.proofs.Common.{◌≡◌, true, map, take}
use Rattle.guppy_metadata.specs.Package.{are_known}
use Rattle.guppy_metadata.proofs.link.check_members.Given as goal

abbrev pub invariant-loop-index : goal.invariant-loop-index
invariant-loop-index l = are_known l.packages (map (λ id. id.now) (take l.index l.members)) ≡ true
