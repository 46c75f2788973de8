-- The links inside a set that a walk from starts goes over.
use Rattle.std.specs.Prelude.{◌≡◌, ◌⊎◌, ◌↔◌, ℕ, Bool, List, Some, slice_get, slice_index, map, Contains}
use Rattle.guppy_search.specs.declared.ix.direction.DependencyDirection.{DependencyDirection}
use Rattle.guppy_search.specs.declared.ix.direction.DependencyDirection.TheVariants.{Forward}
use Rattle.guppy_search.specs.declared.graph_core.link.Link.{Link}
use Rattle.guppy_search.specs.Links.{near_end, IsLedTo}
use Rattle.guppy_search.specs.Pairs.{to_at}
use Rattle.guppy_search.specs.IxSet.{IsIn}
use Rattle.guppy_search.specs.Reach.{LinkStep, ReachedFrom, Mutual}
use Rattle.guppy_search.specs.Resolve.{EachAfter, LeavesOne}

-- the link has both ends in the set
abbrev pub IsInside : {E : Type 0} → List Bool → Link E → Type 0
IsInside set l = IsIn set l.from × IsIn set l.to

-- a step between two positions of the set
abbrev pub StepInside : (ℕ → ℕ → Type 0) → List Bool → ℕ → ℕ → Type 0
StepInside R set a b = R a b × IsIn set a × IsIn set b

-- link n is inside the set, and the end that it leaves is reached from a start over links inside
-- the set
pub record IsWalked {E : Type 0} (d : DependencyDirection) (links : List (Link E)) (set : List Bool)
    (IsStart : ℕ → Type 0) (n : ℕ) : Type 0 where
  pub link : Link E
  pub found : slice_get links n ≡ Some link
  pub inside : IsInside set link
  pub reached : ReachedFrom (StepInside (LinkStep d links) set) IsStart (near_end d link)

-- the list has the numbers of the walked links
pub record AreWalked {E : Type 0} (d : DependencyDirection) (links : List (Link E))
    (set : List Bool) (IsStart : ℕ → Type 0) (listed : List ℕ) : Type 0 where
  -- none twice
  pub once : EachAfter (λ before n. ¬ Contains before n) listed
  -- each walked link, and no other
  pub walked : (n : ℕ) → Contains listed n ↔ IsWalked d links set IsStart n
  -- the end that a link leaves is a start, or one listed before it leads there
  pub led_to : EachAfter (λ before n. LeavesOne d links
      (λ p. IsStart p ⊎ IsLedTo d links before p) n) listed

-- n is the number of a link inside the set
abbrev pub IsLinkInside : {E : Type 0} → List (Link E) → List Bool → ℕ → Type 0
IsLinkInside {E} links set n = (l : Link E) × (slice_get links n ≡ Some l) × IsInside set l

-- the set holds each component that it touches
abbrev pub HoldsComponents : {E : Type 0} → List (Link E) → List Bool → Type 0
HoldsComponents links set =
    (x y : ℕ) → IsIn set x → Mutual (LinkStep Forward links) x y → IsIn set y

-- a link's number and its ends
pub record LinkEnds : Type 0 where
  pub from : ℕ
  pub to : ℕ
  pub number : ℕ

-- the link with this number, as its ends
abbrev pub ends_at : {E : Type 0} → List (Link E) → ℕ → LinkEnds
ends_at {E} links n = record {
  from = slice_index
      (map (λ (l : Link E). l.from) links) n;
  to = to_at links n;
  number = n;
}

-- the numbers of the links
abbrev pub numbers_of : List LinkEnds → List ℕ
numbers_of = map (λ (l : LinkEnds). l.number)
