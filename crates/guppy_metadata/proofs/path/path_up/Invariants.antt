use Rattle.std.proofs.Common.{◌≡◌, ◌++◌, List, map}
use Rattle.std.specs.List.{list_any}
use Rattle.guppy_data.specs.Path.{Part, Parent}
use Rattle.guppy_metadata.specs.Path.{is_parent}
use Rattle.guppy_metadata.specs.PathText.{IsTextOf, rest_of}
use Rattle.guppy_metadata.proofs.path.path_up.Given as goal

abbrev pub invariant-loop-component : goal.invariant-loop-component
invariant-loop-component l =
    (list_any is_parent (rest_of l.fn.root) ≡ list_any is_parent (rest_of l.component-iterator))
    × ((passed : List Part) × (rest_of l.fn.root ≡ passed ++ rest_of l.component-iterator)
    × IsTextOf (map (λ _. Parent) passed) l.path)
