use Rattle.std.proofs.Common.{List, length}
use Rattle.std.specs.Option.{option_copied}
use Rattle.json.specs.Json.{Json}
use Rattle.guppy_metadata.specs.Target.{IsFirstLibrary}
use Rattle.guppy_metadata.proofs.Turns.{ItemsRead}
use Rattle.guppy_metadata.proofs.target.read_library.Given as goal

abbrev pub invariant-loop-alloc : goal.invariant-loop-alloc
invariant-loop-alloc l = (targets : List Json) × ItemsRead 124 l.initial.reader targets l.reader × IsFirstLibrary targets (option_copied l.library)

abbrev pub decreases-loop-alloc : goal.decreases-loop-alloc
decreases-loop-alloc l = length l.reader
