use Rattle.std.proofs.Common.{◌≡◌, ◌++◌, drop}
use Rattle.guppy_closure.specs.Named.{held}
use Rattle.guppy_closure.proofs.named.held.Given as goal

abbrev pub invariant-names : goal.invariant-names
invariant-names g l = record {
  facts : l.facts.items ++ held (drop l.place l.set) (drop l.place l.names) ≡ held l.set l.names;
}
