use Rattle.std.proofs.Common.{◌≡◌, map, option_map, take}
use Rattle.std.specs.List.{filter_map}
use Rattle.guppy_command.specs.Asked.{picked}
use Rattle.guppy_command.specs.Shown.{argument_shown, texts}
use Rattle.guppy_command.proofs.asked.all_picked.Given as goal

abbrev pub invariant-loop-argument : goal.invariant-loop-argument
invariant-loop-argument l = texts l.values.items ≡ filter_map (picked (option_map (λ name. name.now) l.name)) (map argument_shown (take l.argument-index l.given))
