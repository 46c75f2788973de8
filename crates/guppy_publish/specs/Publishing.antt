-- The order in which the members of a workspace can be published.
use Rattle.std.specs.Prelude.{◌≡◌, ◌≢◌, ◌↔◌, ℕ, List}
use Rattle.guppy_search.specs.Reach.{Walk}
use Rattle.guppy_core.specs.Listing.{Stands, IsOnce, Precedes}
use Rattle.guppy_graph.specs.Graph.{GraphData}
use Rattle.guppy_graph.specs.Members.{IsMember}
use Rattle.guppy_graph.specs.Ordered.{FirmStep}
use Rattle.guppy.specs.Listed.{ids_at}

-- each member of the workspace once, nothing else, and each after every other member to which a walk
-- over links that aren't dev-only leads from it, through whatever packages
pub record IsPublishOrder (g : GraphData) (order : List ℕ) : Type 0 where
  pub once : IsOnce order
  pub members : (p : ℕ) → Stands order p ↔ IsMember g.packages p
  pub after : (x y : ℕ) → Stands order x → Stands order y → x ≢ y → Walk (FirmStep g.links) x y
      → Precedes order y x

-- the IDs of the packages of such an order
pub record ArePublishIds (g : GraphData) (ids : List (List ℕ)) : Type 0 where
  pub order : List ℕ
  pub is_order : IsPublishOrder g order
  pub ids_are : ids ≡ ids_at g.packages order
