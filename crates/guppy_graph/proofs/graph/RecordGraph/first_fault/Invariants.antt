use Rattle.std.proofs.Common.{ℕ, ◌<◌}
use Rattle.guppy_graph.specs.Verified.{IsPackageVerified}
use Rattle.guppy_graph.proofs.graph.RecordGraph.first_fault.Given as goal

abbrev pub invariant-loop-position : goal.invariant-loop-position
invariant-loop-position l = (p : ℕ) → p < l.position → IsPackageVerified l.self p
