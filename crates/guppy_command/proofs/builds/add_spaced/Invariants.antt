use Rattle.std.proofs.Common.{◌≡◌, ◌++◌, filter}
use Rattle.std.specs.Prelude.{not}
use Rattle.guppy_command.specs.Shown.{texts}
use Rattle.guppy_command.specs.Text.{is_empty}
use Rattle.guppy_command.proofs.builds.add_spaced.Given as goal

abbrev pub invariant-loop-word : goal.invariant-loop-word
invariant-loop-word l = texts l.features.items ≡ texts l.initial.features.items ++ filter (λ word. not (is_empty word)) (texts l.yielded)
