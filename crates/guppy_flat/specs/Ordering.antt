-- Orders and components of positions.
use Rattle.std.specs.Prelude.{◌≡◌, ◌↔◌, ℕ, ◌+◌, ◌<◌, Bool, false, List, length, Some, slice_get}
use Rattle.std.specs.List.{concat}
use Rattle.guppy_search.specs.declared.ix.direction.DependencyDirection.TheVariants.{Forward}
use Rattle.guppy_search.specs.declared.graph_core.link.Link.{Link}
use Rattle.guppy_search.specs.IxSet.{has}
use Rattle.guppy_search.specs.Reach.{LinkStep, Mutual}
use Rattle.guppy_core.specs.Topo.{IsTopo, HasNoCycle, LeadsOn}
use Rattle.guppy_core.specs.Sccs.{AreSccs}
use Rattle.guppy_core.specs.Order.{IsOrder}
use Rattle.guppy_flat.specs.Search.{FlaggedStep}

-- the blocks are the components of the positions below n, and end to end an order of them, with an
-- index over the flagged links
pub record AreOrdered (links : List (Link Bool)) (n : ℕ) (blocks : List (List ℕ)) : Type 0 where
  pub index : List ℕ
  pub index_is : IsTopo (FlaggedStep Forward links) n index
  pub components_are : AreSccs (LinkStep Forward links) n index blocks
  pub order_is : IsOrder (LinkStep Forward links) n index (concat blocks)
  -- where the flagged links have no cycle but self-links, each between different positions leads on
  pub leads_on : HasNoCycle (FlaggedStep Forward links)
      → LeadsOn (FlaggedStep Forward links) (concat blocks)

-- the list has the positions below n in such an order
abbrev pub IsOrdered : List (Link Bool) → ℕ → List ℕ → Type 0
IsOrdered links n list =
    (blocks : List (List ℕ)) × AreOrdered links n blocks × (list ≡ concat blocks)

-- what stands at the place is one with what stands just before it
pub record IsWithPrevious (Same : ℕ → ℕ → Type 0) (list : List ℕ) (place : ℕ) : Type 0 where
  pub before : ℕ
  pub first : ℕ
  pub second : ℕ
  pub next : before + 1 ≡ place
  pub first_at : slice_get list before ≡ Some first
  pub second_at : slice_get list place ≡ Some second
  pub same : Same first second

-- a place has no mark exactly where it is of one component with the place before it
abbrev pub MarksFirsts : List (Link Bool) → List ℕ → List Bool → Type 0
MarksFirsts links list firsts = (place : ℕ) → place < length list
    → (has firsts place ≡ false) ↔ IsWithPrevious (Mutual (LinkStep Forward links)) list place
