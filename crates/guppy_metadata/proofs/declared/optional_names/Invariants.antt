use Rattle.std.proofs.Common.{take}
use Rattle.guppy_metadata.specs.Dependency.{NamesOptional}
use Rattle.guppy_metadata.proofs.declared.optional_names.Given as goal

abbrev pub invariant-loop-dependency : goal.invariant-loop-dependency
invariant-loop-dependency l = NamesOptional (take l.dependency-index l.declared) l.names
