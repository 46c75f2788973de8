use Rattle.std.proofs.Common.{take, map}
use Rattle.guppy_closure.specs.Named.{StandsAt, AreSame}
use Rattle.guppy_platforms.specs.HostClauses.{package_clause}
use Rattle.guppy_platforms.proofs.host.package_clauses.Given as goal

abbrev pub invariant-loop-it : goal.invariant-loop-it
invariant-loop-it l = AreSame (StandsAt (map (λ id. id.now) l.ids.keys)) (map package_clause (take l.it-index l.packages)) l.clauses.items
