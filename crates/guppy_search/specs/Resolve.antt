-- What a resolve shows to a visitor, and which positions it includes.
use Rattle.std.specs.Prelude.{◌≡◌, ◌⊎◌, ◌↔◌, ℕ, ◌<◌, Bool, true, List, ◌∷◌, ◌++◌, length, Some, slice_get, map}
use Rattle.std.specs.List.{Contains, FoldsTo, filter}
use Rattle.guppy_search.specs.declared.ix.direction.DependencyDirection.{DependencyDirection}
use Rattle.guppy_search.specs.declared.graph_core.link.Link.{Link}
use Rattle.guppy_search.specs.Links.{near_end, far_end}
use Rattle.guppy_search.specs.IxSet.{IsIn}

-- A trace is a list of link numbers, each with the visitor's answer, in the order in which the
-- links were shown.

-- P holds of each element and the elements before it
abbrev pub EachAfter : {X : Type 0} → (List X → X → Type 0) → List X → Type 0
EachAfter {X} P xs =
    (before : List X) (x : X) (after : List X) → xs ≡ before ++ x ∷ after → P before x

-- the link was shown
abbrev pub IsShown : List (ℕ × Bool) → ℕ → Type 0
IsShown trace n = (answer : Bool) × Contains trace (n, answer)

-- no link of the trace is shown twice
abbrev pub ShownOnce : List (ℕ × Bool) → Type 0
ShownOnce = EachAfter (λ before entry. ¬ IsShown before entry.0)

-- P holds of the end that link n leaves
abbrev pub LeavesOne : {E : Type 0} → DependencyDirection → List (Link E) → (ℕ → Type 0) → ℕ
    → Type 0
LeavesOne {E} d links P n = (l : Link E) × (slice_get links n ≡ Some l) × P (near_end d l)

-- the position is an initial one, or an accepted link leads to it
abbrev pub IsIncluded : {E : Type 0} → DependencyDirection → List (Link E) → List Bool
    → List (ℕ × Bool) → ℕ → Type 0
IsIncluded {E} d links initials trace p =
    IsIn initials p ⊎ ((n : ℕ) × (l : Link E) × Contains trace (n, true)
    × (slice_get links n ≡ Some l) × (far_end d l ≡ p))

-- each link is shown only after the end that it leaves was included
abbrev pub ShownInTime : {E : Type 0} → DependencyDirection → List (Link E) → List Bool
    → List (ℕ × Bool) → Type 0
ShownInTime d links initials =
    EachAfter (λ before entry. LeavesOne d links (IsIncluded d links initials before) entry.0)

-- the trace and the set judge a resolve from the initial positions
pub record JudgesResolve {E : Type 0} (d : DependencyDirection) (links : List (Link E))
    (initials : List Bool) (trace : List (ℕ × Bool)) (set : List Bool) : Type 0 where
  -- no link is shown twice
  pub once : ShownOnce trace
  -- exactly the links that leave the set are shown
  pub shown : (n : ℕ) → IsShown trace n ↔ LeavesOne d links (IsIn set) n
  -- the set has the initial positions, those to which accepted links lead, and no other
  pub included : (p : ℕ) → IsIn set p ↔ IsIncluded d links initials trace p
  -- a link is shown only after the end that it leaves was included
  pub led_to : ShownInTime d links initials trace

-- each answer of the trace accepts
abbrev pub AcceptsAll : List (ℕ × Bool) → Type 0
AcceptsAll trace = (n : ℕ) (answer : Bool) → Contains trace (n, answer) → answer ≡ true

-- the links of the trace that were accepted
abbrev pub accepted_links : List (ℕ × Bool) → List ℕ
accepted_links trace =
    map (λ (entry : ℕ × Bool). entry.0) (filter (λ (entry : ℕ × Bool). entry.1) trace)

-- the visitor's states over the trace: each step is one that it may take
abbrev pub Visits : {V : Type 0} → (V → ℕ → Bool → V → Type 0) → V → List (ℕ × Bool) → V → Type 0
Visits visits = FoldsTo (λ state entry next. visits state entry.0 entry.1 next)

-- a filter may be asked as a resolve asks it: about a link that leaves what the answers so far
-- include, and that it wasn't asked about yet. That its number is below the count follows, and is
-- said for those who read a list by it.
pub record IsCallable {E F : Type 0} (may_call : F → ℕ → Type 0)
    (calls : F → ℕ → Bool → F → Type 0) (d : DependencyDirection) (links : List (Link E))
    (initials : List Bool) (filter : F) : Type 0 where
  pub at : (earlier : List (ℕ × Bool)) (now : F) (n : ℕ) → ShownOnce earlier
      → ShownInTime d links initials earlier → Visits calls filter earlier now
      → LeavesOne d links (IsIncluded d links initials earlier) n → ¬ IsShown earlier n
      → n < length links → may_call now n
