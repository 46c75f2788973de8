-- A breadth-first search under way, over links between positions.
use Rattle.std.specs.Prelude.{◌≡◌, ◌≢◌, ◌⊎◌, ℕ, ◌+◌, ◌<◌, ◌≤◌, Bool, List, length, Option, None, Some, MatchOption, slice_get, Contains}
use Rattle.guppy_search.specs.declared.graph_core.link.Link.{Link}
use Rattle.guppy_search.specs.IxSet.{IsIn, member_count}

-- a position that was found, how many links the walk to it has, and the last of these, with the place
-- of the node that it leaves
pub record Node : Type 0 where
  pub position : ℕ
  pub distance : ℕ
  pub last : Option (ℕ × ℕ)

-- the node at which a search begins
abbrev pub start_node : ℕ → Node
start_node start = record { position = start; distance = 0; last = None }

-- a node at the position, no further than this, is among the nodes
abbrev pub IsFoundWithin : List Node → ℕ → ℕ → Type 0
IsFoundWithin nodes p distance = (k : ℕ) × (n : Node) × (slice_get nodes k ≡ Some n)
    × (n.position ≡ p) × (n.distance ≤ distance)

-- the link leads to the node from an earlier one that is one link nearer
pub record IsLedTo {E : Type 0} (links : List (Link E)) (nodes : List Node) (k : ℕ) (n : Node)
    (number before : ℕ) : Type 0 where
  pub earlier : Node
  pub link : Link E
  pub is_before : before < k
  pub at : slice_get nodes before ≡ Some earlier
  pub found : slice_get links number ≡ Some link
  pub leaves : link.from ≡ earlier.position
  pub ends : link.to ≡ n.position
  pub distance_is : n.distance ≡ earlier.distance + 1

-- the node at the place k is the start, or its last link leads to it
abbrev pub IsEntered : {E : Type 0} → List (Link E) → ℕ → List Node → ℕ → Node → Type 0
IsEntered links start nodes k n =
    MatchOption n.last ((n.position ≡ start) × (n.distance ≡ 0))
    (λ last. IsLedTo links nodes k n last.0 last.1)

-- the nodes so far, which are those that were seen, where the links of those before the place `done`
-- were followed
pub record Searched {E : Type 0} (links : List (Link E)) (start : ℕ) (nodes : List Node)
    (seen : List Bool) (done : ℕ) : Type 0 where
  pub begins : slice_get nodes 0 ≡ Some (start_node start)
  pub entered : (k : ℕ) (n : Node) → slice_get nodes k ≡ Some n → IsEntered links start nodes k n
  -- those found first are nearest, and none is further than one link from the node at `done`
  pub rising : (j k : ℕ) (m n : Node) → j ≤ k → slice_get nodes j ≡ Some m
      → slice_get nodes k ≡ Some n → m.distance ≤ n.distance
  pub near : (k : ℕ) (m n : Node) → slice_get nodes done ≡ Some m → slice_get nodes k ≡ Some n
      → n.distance ≤ m.distance + 1
  pub followed : (k number : ℕ) (m : Node) (l : Link E) → k < done → slice_get nodes k ≡ Some m
      → slice_get links number ≡ Some l → l.from ≡ m.position
      → IsFoundWithin nodes l.to (m.distance + 1)
  pub found : (p : ℕ) → IsIn seen p → (k : ℕ) × (n : Node) × (slice_get nodes k ≡ Some n)
      × (n.position ≡ p)
  pub few : length nodes ≡ member_count seen

-- the links of the node were followed, but for those with the numbers that are left
pub record Following {E : Type 0} (links : List (Link E)) (nodes : List Node) (m : Node)
    (left : List ℕ) : Type 0 where
  pub row : (number : ℕ) → Contains left number
      → (l : Link E) × (slice_get links number ≡ Some l) × (l.from ≡ m.position)
  pub followed : (number : ℕ) (l : Link E) → slice_get links number ≡ Some l → l.from ≡ m.position
      → Contains left number ⊎ IsFoundWithin nodes l.to (m.distance + 1)

-- no node before the place is at the position
abbrev pub AreElsewhere : List Node → ℕ → ℕ → Type 0
AreElsewhere nodes done p =
    (k : ℕ) (n : Node) → k < done → slice_get nodes k ≡ Some n → n.position ≢ p

-- the nodes are still in their places
abbrev pub AreKept : List Node → List Node → Type 0
AreKept nodes more = (k : ℕ) (n : Node) → slice_get nodes k ≡ Some n → slice_get more k ≡ Some n
