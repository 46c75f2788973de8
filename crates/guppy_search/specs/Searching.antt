-- A search under way: what a visitor was shown so far, and what is left.
use Rattle.std.specs.Prelude.{◌⊎◌, ◌↔◌, ℕ, ◌<◌, ◌≤◌, Bool, List, ◌++◌, length, slice_index}
use Rattle.std.specs.List.{Contains}
use Rattle.guppy_search.specs.declared.ix.direction.DependencyDirection.{DependencyDirection}
use Rattle.guppy_search.specs.declared.graph_core.link.Link.{Link}
use Rattle.guppy_search.specs.IxSet.{IsIn, member_count}
use Rattle.guppy_search.specs.Resolve.{EachAfter, IsShown, ShownOnce, ShownInTime, LeavesOne, IsIncluded, Visits}

-- each number is above those before it
abbrev pub IsAscending : List ℕ → Type 0
IsAscending ns = (q r : ℕ) → q < r → r < length ns → slice_index ns q < slice_index ns r

-- the positions that wait are in the set, each once, and are no more than it has
pub record Waits (set : List Bool) (waiting : List ℕ) : Type 0 where
  pub in_set : (p : ℕ) → Contains waiting p → IsIn set p
  pub once : EachAfter (λ before p. ¬ Contains before p) waiting
  pub few : length waiting ≤ member_count set

-- of the initial positions those that are left are not yet put in; all that are in wait
pub record Seeded (initials set : List Bool) (waiting left : List ℕ) : Type 0 where
  pub initial : (p : ℕ) → IsIn set p → IsIn initials p
  pub back : (p : ℕ) → IsIn initials p → IsIn set p ⊎ Contains left p
  pub to_come : (p : ℕ) → Contains left p → IsIn initials p
  pub all_wait : (p : ℕ) → IsIn set p → Contains waiting p
  pub waits : Waits set waiting

-- link n is still to be shown: the position that it leaves waits, or is being followed
abbrev pub IsDue : {E : Type 0} → DependencyDirection → List (Link E) → List ℕ → List ℕ → ℕ → Type 0
IsDue d links waiting left n = LeavesOne d links (Contains waiting) n ⊎ Contains left n

-- a search under way, where left are the links still to be shown of the position that is being
-- followed.
pub record Searching {E : Type 0} (d : DependencyDirection) (links : List (Link E))
    (initials : List Bool) (trace : List (ℕ × Bool)) (set : List Bool)
    (waiting left : List ℕ) : Type 0 where
  pub once : ShownOnce trace
  pub led_to : ShownInTime d links initials trace
  pub included : (p : ℕ) → IsIn set p ↔ IsIncluded d links initials trace p
  pub shown : (n : ℕ) → IsShown trace n → LeavesOne d links (IsIn set) n
  pub due : (n : ℕ) → LeavesOne d links (IsIn set) n → IsShown trace n
      ⊎ IsDue d links waiting left n
  pub not_yet : (n : ℕ) → IsDue d links waiting left n → ¬ IsShown trace n
  pub row : (n : ℕ) → Contains left n → LeavesOne d links (λ p. IsIn set p × ¬ Contains waiting p) n
  pub ascending : IsAscending left
  pub waits : Waits set waiting

-- these links, shown with these answers, take each search from the one state to the other
pub record Shows {E : Type 0} (d : DependencyDirection) (links : List (Link E))
    (shown : List (ℕ × Bool)) (set : List Bool) (waiting left : List ℕ) (set' : List Bool)
    (waiting' left' : List ℕ) : Type 0 where
  pub after : (initials : List Bool) (trace : List (ℕ × Bool))
      → Searching d links initials trace set waiting left
      → Searching d links initials (trace ++ shown) set' waiting' left'

-- the visitor may be shown the next link, whatever it was shown on the way there
pub record MayGoOn {E V : Type 0} (may_call : V → ℕ → Type 0) (calls : V → ℕ → Bool → V → Type 0)
    (d : DependencyDirection) (links : List (Link E)) (set : List Bool) (waiting left : List ℕ)
    (visitor : V) : Type 0 where
  pub at : (shown : List (ℕ × Bool)) (now : V) (n : ℕ) (set' : List Bool) (waiting' left' : List ℕ)
      → Shows d links shown set waiting left set' waiting' left' → Contains left' n
      → Visits calls visitor shown now → may_call now n
