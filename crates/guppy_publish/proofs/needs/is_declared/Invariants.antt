use Rattle.std.proofs.Common.{◌≢◌, All, take}
use Rattle.guppy_publish.specs.Needs.{pair_texts}
use Rattle.guppy_publish.proofs.needs.is_declared.Given as goal

abbrev pub invariant-loop-pair : goal.invariant-loop-pair
invariant-loop-pair l = All (λ pair. pair_texts pair ≢ (l.from, l.to)) (take l.pair-index l.declared)
