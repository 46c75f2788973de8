use Rattle.std.proofs.Common.{◌≢◌, All, take}
use Rattle.guppy_publish.specs.Needs.{ends}
use Rattle.guppy_publish.proofs.needs.place_of.Given as goal

abbrev pub invariant-loop-place : goal.invariant-loop-place
invariant-loop-place l = All (λ link. ends link ≢ (l.from, l.to)) (take l.place l.links)
