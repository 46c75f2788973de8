-- What flagged links lead to.
use Rattle.std.specs.Prelude.{◌↔◌, ℕ, Bool, List}
use Rattle.guppy_search.specs.declared.ix.direction.DependencyDirection.{DependencyDirection}
use Rattle.guppy_search.specs.declared.graph_core.link.Link.{Link}
use Rattle.guppy_search.specs.IxSet.{IsIn}
use Rattle.guppy_search.specs.Reach.{Step, ReachedFrom}

-- a flagged link leads from a to b in this direction
abbrev pub FlaggedStep : DependencyDirection → List (Link Bool) → ℕ → ℕ → Type 0
FlaggedStep d links = Step d (λ flag. flag) links

-- the set has the positions that walks over flagged links reach from the starts, and no other
abbrev pub IsReached : DependencyDirection → List (Link Bool) → List Bool → List Bool → Type 0
IsReached d links starts set =
    (p : ℕ) → IsIn set p ↔ ReachedFrom (FlaggedStep d links) (IsIn starts) p
