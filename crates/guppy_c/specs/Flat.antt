-- How a call on slices ends.
use Rattle.std.specs.Prelude.{◌≡◌, ◌≢◌, ℕ, Bool, true, false, List}
use Rattle.guppy_search.specs.Fault.{IsFault}
use Rattle.guppy_search.specs.declared.graph_core.graph.GraphFault.TheVariants.{TooManyNodes, TooManyLinks, UnknownEnd, RepeatedLink}
use Rattle.guppy_search.specs.declared.graph_core.link.Link.{Link}
use Rattle.guppy_search.specs.declared.ix.direction.DependencyDirection.{DependencyDirection}
use Rattle.guppy_search.specs.declared.ix.direction.DependencyDirection.TheVariants.{Forward, Reverse}
use Rattle.guppy_flat.specs.Flat.{AreWithin}
use Rattle.guppy_c.specs.declared.flat.Outcome.{Outcome}

-- the direction from dependents to dependencies, or the other one
abbrev pub direction_of : Bool → DependencyDirection
direction_of true = Forward
direction_of false = Reverse

-- what the status tells of the links between so many positions is their first fault, with the link that has it
pub record TellsFault (count : ℕ) (links : List (Link Bool)) (outcome : Outcome) : Type 0 where
  pub positions : outcome.status ≡ 2 → IsFault count links TooManyNodes
  pub links_too_many : outcome.status ≡ 3 → IsFault count links TooManyLinks
  pub unknown : outcome.status ≡ 4 → IsFault count links (UnknownEnd outcome.link)
  pub repeated : outcome.status ≡ 5 → IsFault count links (RepeatedLink outcome.link)
  pub within : outcome.status ≡ 6 → AreWithin count links
  pub no_link : outcome.status ≢ 4 → outcome.status ≢ 5 → outcome.link ≡ 0
