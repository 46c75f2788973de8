-- The links of a set that are walked from its roots.
use Rattle.std.specs.Prelude.{◌≡◌, ◌↔◌, ℕ, List, map, Contains}
use Rattle.guppy_search.specs.declared.ix.direction.DependencyDirection.{DependencyDirection}
use Rattle.guppy_search.specs.Walked.{AreWalked, IsLinkInside, HoldsComponents, numbers_of}
use Rattle.guppy.specs.Views.{LinkData, link_in}
use Rattle.guppy.specs.declared.set.links.WalkedLinks.{WalkedLinks}
use Rattle.guppy.specs.Query.{SetData}
use Rattle.guppy.specs.Rooted.{IsRootOf}

-- the numbers of the set's links that are walked from its roots in the direction
abbrev pub AreWalkedOf : DependencyDirection → SetData → List ℕ → Type 0
AreWalkedOf d s = AreWalked d s.graph.links s.included (IsRootOf d s)

-- the links of the set that are walked from its roots in the direction
abbrev pub AreWalkedLinks : DependencyDirection → SetData → List LinkData → Type 0
AreWalkedLinks d s links =
    (numbers : List ℕ) × AreWalkedOf d s numbers × (links ≡ map (link_in s.graph) numbers)

-- the set holds each component that it touches
abbrev pub IsWhole : SetData → Type 0
IsWhole s = HoldsComponents s.graph.links s.included

-- exactly the links with both ends in the set
abbrev pub AreLinksInside : SetData → List LinkData → Type 0
AreLinksInside s links =
    (n : ℕ) → Contains links (link_in s.graph n) ↔ IsLinkInside s.graph.links s.included n

-- the links that are still to come
abbrev pub walked_left : WalkedLinks → List LinkData
walked_left s = map (link_in s.graph.now) (numbers_of s.rest)
