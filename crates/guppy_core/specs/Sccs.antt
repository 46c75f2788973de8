-- The components as lists, and how they are laid out.
use Rattle.std.specs.Prelude.{◌≡◌, ◌↔◌, ℕ, ◌+◌, ◌-◌, ◌<◌, ◌≤◌, List, [], ◌∷◌, length, map, reverse, sum, take, Some, slice_get, slice_index}
use Rattle.std.specs.List.{slice_range, concat}
use Rattle.guppy_search.specs.declared.ix.direction.DependencyDirection.{DependencyDirection}
use Rattle.guppy_search.specs.declared.ix.direction.DependencyDirection.TheVariants.{Forward, Reverse}
use Rattle.guppy_search.specs.declared.graph_core.link.Link.{Link}
use Rattle.guppy_search.specs.Links.{links_at}
use Rattle.guppy_search.specs.Reach.{Mutual}
use Rattle.guppy_core.specs.Listing.{Stands, IsListing, Precedes}

-- who stands first in the block stands first in the order
abbrev pub KeepsOrder : List ℕ → List ℕ → Type 0
KeepsOrder order block = (x y : ℕ) → Precedes block x y → Precedes order x y

-- the block with the number c: those of the order that have the number, in that order
pub record IsGroup (order numbers : List ℕ) (c : ℕ) (block : List ℕ) : Type 0 where
  pub members : (x : ℕ) → Stands block x ↔ (Stands order x × (slice_index numbers x ≡ c))
  pub keeps : KeepsOrder order block

-- a block for each number below the count
pub record AreGroups (order numbers : List ℕ) (count : ℕ) (blocks : List (List ℕ)) : Type 0 where
  pub count_is : length blocks ≡ count
  pub group : (c : ℕ) (b : List ℕ) → slice_get blocks c ≡ Some b → IsGroup order numbers c b

-- both stand in one block
abbrev pub InOneBlock : List (List ℕ) → ℕ → ℕ → Type 0
InOneBlock blocks x y =
    (c : ℕ) × (b : List ℕ) × (slice_get blocks c ≡ Some b) × Stands b x × Stands b y

-- the blocks are the components of the positions below n, dependents first, each in the given order
pub record AreSccs (R : ℕ → ℕ → Type 0) (n : ℕ) (order : List ℕ)
    (blocks : List (List ℕ)) : Type 0 where
  -- one behind another they have each position once
  pub listing : IsListing n (concat blocks)
  -- two positions stand in one block exactly where walks lead both ways
  pub classes : (x y : ℕ) → x < n → y < n → InOneBlock blocks x y ↔ Mutual R x y
  -- no block is empty
  pub some : (c : ℕ) (b : List ℕ) → slice_get blocks c ≡ Some b → (x : ℕ) × Stands b x
  -- a step between different blocks leads to a later one
  pub steps : (x y : ℕ) → x < n → y < n → R x y → ¬ InOneBlock blocks x y
      → Precedes (concat blocks) x y
  -- each block is in the given order
  pub keeps : (c : ℕ) (b : List ℕ) → slice_get blocks c ≡ Some b → KeepsOrder order b

-- x stands in a block with another
abbrev pub InLargeBlock : List (List ℕ) → ℕ → Type 0
InLargeBlock blocks x =
    (c : ℕ) × (b : List ℕ) × (slice_get blocks c ≡ Some b) × Stands b x × (1 < length b)

-- the parts of a list from a on, between one bound and the next
abbrev pub parts_from : {X : Type 0} → ℕ → List ℕ → List X → List (List X)
parts_from a [] xs = []
parts_from a (b ∷ bounds) xs = slice_range xs a b ∷ parts_from b bounds xs

-- the parts of a list between one bound and the next
abbrev pub parts : {X : Type 0} → List ℕ → List X → List (List X)
parts [] xs = []
parts (a ∷ bounds) xs = parts_from a bounds xs

-- no bound is below the one before it, and none but perhaps the first is above n
abbrev pub AreBounds : List ℕ → ℕ → Type 0
AreBounds bounds n = (c : ℕ) → c + 1 < length bounds
    → (slice_index bounds c ≤ slice_index bounds (c + 1)) × (slice_index bounds (c + 1) ≤ n)

-- the list is cut into parts that have all of it
pub record IsCut {X : Type 0} (xs : List X) (bounds : List ℕ) : Type 0 where
  pub climb : AreBounds bounds (length xs)
  pub last : slice_index bounds (length bounds - 1) ≡ length xs
  pub some : 0 < length bounds

-- the list is cut into parts that have all of it, for each number below the count those of the order
-- that have the number
pub record IsLaid (order numbers : List ℕ) (count : ℕ) (list bounds : List ℕ) : Type 0 where
  pub groups : AreGroups order numbers count (parts bounds list)
  pub joined : concat (parts bounds list) ≡ list
  pub cut : IsCut list bounds

-- the positions of the order, each as a link that leads to it from its number
abbrev pub numbered_links : List ℕ → List ℕ → List (Link (Unit {0}))
numbered_links numbers order =
    map (λ x. record { from = slice_index numbers x; to = x; edge = tt }) order

-- one place after each number below the count stands how many of the order have it
pub record AreCounts (order numbers : List ℕ) (count : ℕ) (counts : List ℕ) : Type 0 where
  pub count_is : length counts ≡ count + 1
  pub first : slice_index counts 0 ≡ 0
  pub own : (c : ℕ) → c < count
      → slice_index counts (c + 1) ≡ length (links_at Forward (numbered_links numbers order) c)

-- in each place stands the sum of the counts before it
pub record AreSums (counts sums : List ℕ) : Type 0 where
  pub count_is : length sums ≡ length counts
  pub sum_is : (k : ℕ) → k < length counts → slice_index sums k ≡ sum (take k counts)

-- each number below the length has its place in the blocks, where number says which block it is
pub record AreNumbered (blocks : List (List ℕ)) (numbers : List ℕ) : Type 0 where
  pub count : length numbers ≡ length (concat blocks)
  pub stands : (x : ℕ) → x < length numbers → (b : List ℕ)
      × (slice_get blocks (slice_index numbers x) ≡ Some b) × Stands b x
  pub only : (c : ℕ) (b : List ℕ) (x : ℕ) → slice_get blocks c ≡ Some b → Stands b x
      → slice_index numbers x ≡ c

-- the positions that are still to come, in the order in which they come, and the direction
pub record NodesLeft : Type 0 where
  pub direction : DependencyDirection
  pub left : List ℕ

-- the list as it comes in a direction
abbrev pub listed : DependencyDirection → List ℕ → List ℕ
listed Forward xs = xs
listed Reverse xs = reverse xs
