use Rattle.std.proofs.Common.{◌≡◌, ◌++◌, List, [], MatchOption, option_map}
use Rattle.std.specs.List.{cons_option}
use Rattle.guppy_data.specs.Path.{Part}
use Rattle.guppy_data.specs.Component.{part_shown}
use Rattle.guppy_metadata.specs.PathText.{IsTextOf, rest_of}
use Rattle.guppy_metadata.proofs.path.PathText.push_folder.Given as goal

abbrev pub invariant-loop-component : goal.invariant-loop-component
invariant-loop-component l = (parts : List Part) → IsTextOf parts l.fn.self → (pushed : List Part)
    × (rest_of l.fn.file ≡ pushed ++ cons_option (option_map part_shown l.waiting) (rest_of l.component-iterator))
    × IsTextOf (parts ++ pushed) l.self
    × MatchOption l.waiting (pushed ≡ []) (λ _. Unit {0})
