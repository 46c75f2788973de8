use Rattle.std.proofs.Common.{ℕ, List, map, take}
use Rattle.std.specs.Prelude.{Contains}
use Rattle.std.specs.String.{string_bytes}
use Rattle.guppy_builds.specs.Building.{question_of}
use Rattle.guppy_builds.specs.Required.{IsRequiredOn}
use Rattle.guppy_builds.proofs.building.Building.are_required_on.Given as goal

abbrev pub invariant-loop-text : goal.invariant-loop-text
invariant-loop-text l = (text : List ℕ) → Contains (map string_bytes (take l.text-index l.texts)) text → IsRequiredOn (question_of l.self) l.position text
