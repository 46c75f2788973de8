-- The order of the packages.
use Rattle.std.specs.Prelude.{ℕ, ◌*◌, Bool, not, List, length}
use Rattle.std.specs.List.{concat}
use Rattle.guppy_search.specs.declared.graph_core.link.Link.{Link}
use Rattle.guppy_search.specs.declared.ix.direction.DependencyDirection.TheVariants.{Forward}
use Rattle.guppy_search.specs.Reach.{LinkStep, Step}
use Rattle.guppy_core.specs.Cost.{AreLookedAt}
use Rattle.guppy_core.specs.Topo.{IsTopo, FromRoot, HasNoCycle, LeadsOn}
use Rattle.guppy_core.specs.Sccs.{AreSccs}
use Rattle.guppy_core.specs.Order.{IsOrder}
use Rattle.guppy_data.specs.declared.records.LinkRecord.{LinkRecord}
use Rattle.guppy_graph.specs.DevOnly.{is_dev_only}

-- whether the link isn't dev-only
abbrev pub is_firm : LinkRecord → Bool
is_firm r = not (is_dev_only r)

-- a link that isn't dev-only leads from one position to the other
abbrev pub FirmStep : List (Link LinkRecord) → ℕ → ℕ → Type 0
FirmStep links = Step Forward is_firm links

-- the index is one over the links that aren't dev-only, and the components, end to end, are an
-- order of the n positions
pub record IsOrdered (n : ℕ) (links : List (Link LinkRecord)) (index : List ℕ)
    (components : List (List ℕ)) : Type 0 where
  pub index_is : IsTopo (FirmStep links) n index
  pub components_are : AreSccs (LinkStep Forward links) n index components
  pub order_is : IsOrder (LinkStep Forward links) n index (concat components)
  -- where the links that aren't dev-only have no cycle but self-links, each between different
  -- packages leads on
  pub leads_on : HasNoCycle (FirmStep links) → LeadsOn (FirmStep links) (concat components)

-- so often links are looked at to order the n positions: three times each, and once more each that
-- leaves a position to which links that aren't dev-only lead from a root of these
abbrev pub AreOrderLooks : ℕ → List (Link LinkRecord) → ℕ → Type 0
AreOrderLooks n links =
    AreLookedAt Forward links n (FromRoot (FirmStep links) n) (3 * length links)
