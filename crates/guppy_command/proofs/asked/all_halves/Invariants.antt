use Rattle.std.proofs.Common.{◌≡◌, ℕ, List, map, take}
use Rattle.std.specs.List.{filter_map}
use Rattle.guppy_command.specs.Asked.{halves_of}
use Rattle.guppy_command.specs.Shown.{texts}
use Rattle.guppy_command.proofs.asked.all_halves.Given as goal

abbrev pub invariant-loop-text : goal.invariant-loop-text
invariant-loop-text l = map {B = List ℕ × List ℕ} (λ both. (both.0.now, both.1.now)) l.halves.items ≡ filter_map halves_of (texts (take l.text-index l.values))
