-- What is asked of sets of positions.
use Rattle.std.specs.Prelude.{◌↔◌, ℕ, Bool, List, Contains}
use Rattle.guppy_search.specs.declared.ix.direction.DependencyDirection.{DependencyDirection}
use Rattle.guppy_search.specs.declared.ix.direction.DependencyDirection.TheVariants.{Forward}
use Rattle.guppy_search.specs.declared.graph_core.link.Link.{Link}
use Rattle.guppy_search.specs.IxSet.{IsIn}
use Rattle.guppy_search.specs.Reach.{LinkStep, Mutual}
use Rattle.guppy_search.specs.Walked.{AreWalked, HoldsComponents, IsLinkInside}
use Rattle.guppy_core.specs.Roots.{IsRoot}

-- the marks are at the roots of the set in the direction, and nowhere else
abbrev pub MarksRoots : DependencyDirection → List (Link Bool) → List Bool → List Bool → Type 0
MarksRoots d links set marks =
    (p : ℕ) → IsIn marks p ↔ IsRoot (LinkStep d links) (Mutual (LinkStep Forward links)) set p

-- the numbers of the links inside the set that are walked from its roots
pub record AreSetLinks (d : DependencyDirection) (links : List (Link Bool)) (set : List Bool)
    (list : List ℕ) : Type 0 where
  pub walked : AreWalked d links set
      (IsRoot (LinkStep d links) (Mutual (LinkStep Forward links)) set) list
  -- these are all where the set holds each component that it touches
  pub all : HoldsComponents links set → (n : ℕ) → Contains list n ↔ IsLinkInside links set n
