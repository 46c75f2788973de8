-- A search with a buffered filter under way.
use Rattle.std.specs.Prelude.{◌⊎◌, ◌↔◌, ℕ, Bool, List, ◌++◌, Option}
use Rattle.std.specs.List.{Contains}
use Rattle.guppy_search.specs.declared.ix.direction.DependencyDirection.{DependencyDirection}
use Rattle.guppy_search.specs.declared.graph_core.link.Link.{Link}
use Rattle.guppy_search.specs.IxSet.{IsIn}
use Rattle.guppy_search.specs.Resolve.{LeavesOne}
use Rattle.guppy_search.specs.Searching.{IsAscending, Waits}
use Rattle.guppy_search.specs.Buffered.{Question, IsAsked, IsFound, IsOrderly, Asks, EndsInError}
use Rattle.guppy_search.specs.Buffered.Question.{discover, filter}

-- left are the links still to be asked about of the position that was discovered last
pub record Buffering {E : Type 0} (d : DependencyDirection) (links : List (Link E))
    (initials : List Bool) (trace : List (Question × List ℕ)) (set : List Bool)
    (waiting left : List ℕ) : Type 0 where
  pub orderly : IsOrderly d links initials trace
  pub included : (p : ℕ) → IsIn set p ↔ IsFound d links initials trace p
  pub discovered : (p : ℕ) → IsAsked trace (discover p) → IsIn set p
  pub to_discover : (p : ℕ) → IsIn set p → IsAsked trace (discover p) ⊎ Contains waiting p
  pub undiscovered : (p : ℕ) → Contains waiting p → ¬ IsAsked trace (discover p)
  pub filtered : (n : ℕ) → IsAsked trace (filter n)
      → LeavesOne d links (λ p. IsAsked trace (discover p)) n
  pub to_filter : (n : ℕ) → LeavesOne d links (λ p. IsAsked trace (discover p)) n
      → IsAsked trace (filter n) ⊎ Contains left n
  pub unfiltered : (n : ℕ) → Contains left n → ¬ IsAsked trace (filter n)
  pub row : (n : ℕ) → Contains left n → LeavesOne d links (λ p. IsAsked trace (discover p)) n
  pub ascending : IsAscending left
  pub waits : Waits set waiting

-- these questions, with what was handed back, take each search from the one state to the other
pub record Takes {E : Type 0} (d : DependencyDirection) (links : List (Link E))
    (asked : List (Question × List ℕ)) (set : List Bool) (waiting left : List ℕ) (set' : List Bool)
    (waiting' left' : List ℕ) : Type 0 where
  pub after : (initials : List Bool) (trace : List (Question × List ℕ))
      → Buffering d links initials trace set waiting left
      → Buffering d links initials (trace ++ asked) set' waiting' left'

-- each search from this state ends in an error that takes the filter from the one state to the
-- other
pub record Stops {E T : Type 0} (answers : T → Question → Option (List ℕ) → T → Type 0)
    (d : DependencyDirection) (links : List (Link E)) (set : List Bool) (waiting left : List ℕ)
    (old last : T) : Type 0 where
  pub after : (initials : List Bool) (trace : List (Question × List ℕ)) (first : T)
      → Buffering d links initials trace set waiting left → Asks answers first trace old
      → EndsInError answers d links initials first last

-- the filter may be asked about the next link, whatever it was asked on the way there
pub record MayAskOn {E T : Type 0} (can_filter : T → ℕ → Type 0)
    (answers : T → Question → Option (List ℕ) → T → Type 0) (d : DependencyDirection)
    (links : List (Link E)) (set : List Bool) (waiting left : List ℕ) (first : T) : Type 0 where
  pub at : (asked : List (Question × List ℕ)) (now : T) (n : ℕ) (set' : List Bool)
      (waiting' left' : List ℕ)
      → Takes d links asked set waiting left set' waiting' left' → Contains left' n
      → Asks answers first asked now → can_filter now n
