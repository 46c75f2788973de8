-- What a search with a buffered filter asks, and which positions it includes.
use Rattle.std.specs.Prelude.{◌≡◌, ◌⊎◌, ◌↔◌, ℕ, ◌<◌, Bool, true, if◌then◌else◌, List, [], ◌∷◌, length, All, Option, Some, None, MatchOption}
use Rattle.std.specs.List.{Contains, FoldsTo}
use Rattle.std.specs.Borrow.{Bor}
use Rattle.guppy_search.specs.declared.ix.direction.DependencyDirection.{DependencyDirection}
use Rattle.guppy_search.specs.declared.graph_core.link.Link.{Link}
use Rattle.guppy_search.specs.Links.{IsLedTo}
use Rattle.guppy_search.specs.IxSet.{IsIn}
use Rattle.guppy_search.specs.Resolve.{EachAfter, LeavesOne}

-- A filter is asked about a position that was discovered, or about a link.
pub data Question : Type 0 where
  discover : ℕ → Question
  filter : ℕ → Question

-- A trace is a list of questions, each with the links that were handed back, in the order in which
-- they were asked.

-- the question was asked
abbrev pub IsAsked : List (Question × List ℕ) → Question → Type 0
IsAsked trace question = (handed : List ℕ) × Contains trace (question, handed)

-- the position is an initial one, or a link that was handed back leads to it
abbrev pub IsFound : {E : Type 0} → DependencyDirection → List (Link E) → List Bool
    → List (Question × List ℕ) → ℕ → Type 0
IsFound d links initials trace p =
    IsIn initials p ⊎ ((entry : Question × List ℕ) × Contains trace entry
    × IsLedTo d links entry.1 p)

-- the question may come after these: about a position that was found, or about a link that leaves
-- one that was discovered
abbrev pub IsTimely : {E : Type 0} → DependencyDirection → List (Link E) → List Bool
    → List (Question × List ℕ) → Question → Type 0
IsTimely d links initials before (discover p) = IsFound d links initials before p
IsTimely d links initials before (filter n) = LeavesOne d links (λ p. IsAsked before (discover p)) n

-- each number is a link's
abbrev pub AreLinkNumbers : {E : Type 0} → List (Link E) → List ℕ → Type 0
AreLinkNumbers links = All (λ n. n < length links)

-- no question is asked twice, and none too early; what is handed back are links
pub record IsOrderly {E : Type 0} (d : DependencyDirection) (links : List (Link E))
    (initials : List Bool) (trace : List (Question × List ℕ)) : Type 0 where
  pub once : EachAfter (λ before entry. ¬ IsAsked before entry.0) trace
  pub timely : EachAfter (λ before entry. IsTimely d links initials before entry.0) trace
  pub answered : All (λ (entry : Question × List ℕ). AreLinkNumbers links entry.1) trace

-- the trace and the set judge a buffered resolve from the initial positions
pub record JudgesBuffered {E : Type 0} (d : DependencyDirection) (links : List (Link E))
    (initials : List Bool) (trace : List (Question × List ℕ)) (set : List Bool) : Type 0 where
  -- the set has the initial positions, those to which links lead that were handed back, and no
  -- other
  pub included : (p : ℕ) → IsIn set p ↔ IsFound d links initials trace p
  -- exactly the positions of the set are discovered
  pub discovered : (p : ℕ) → IsAsked trace (discover p) ↔ IsIn set p
  -- exactly the links that leave the set are asked about
  pub filtered : (n : ℕ) → IsAsked trace (filter n) ↔ LeavesOne d links (IsIn set) n
  -- each once, a position after it was found, and a link after the position that it leaves was
  -- discovered
  pub orderly : IsOrderly d links initials trace

-- What a filter says to a position or a link: at a state the links that it may hand back, or none
-- where it answers an error, each with the state that it leaves.

-- what it says to a question
abbrev pub Answers : {T : Type 0} → (T → ℕ → Option (List ℕ) → T → Type 0)
    → (T → ℕ → Option (List ℕ) → T → Type 0) → T → Question → Option (List ℕ) → T → Type 0
Answers discovers filters s (discover p) answer t = discovers s p answer t
Answers discovers filters s (filter n) answer t = filters s n answer t

-- the filter's states over the trace: each step is one that it may take
abbrev pub Asks : {T : Type 0} → (T → Question → Option (List ℕ) → T → Type 0) → T
    → List (Question × List ℕ) → T → Type 0
Asks answers = FoldsTo (λ s entry t. answers s entry.0 (Some entry.1) t)

-- a filter may be asked as a search asks it: a question that isn't too early after the answers so
-- far, and that wasn't asked yet
pub record IsAskable {E T : Type 0} (can_discover can_filter : T → ℕ → Type 0)
    (answers : T → Question → Option (List ℕ) → T → Type 0) (d : DependencyDirection)
    (links : List (Link E)) (initials : List Bool) (first : T) : Type 0 where
  pub at_position : (earlier : List (Question × List ℕ)) (now : T) (p : ℕ)
      → IsOrderly d links initials earlier → Asks answers first earlier now
      → IsTimely d links initials earlier (discover p) → ¬ IsAsked earlier (discover p)
      → can_discover now p
  pub at_link : (earlier : List (Question × List ℕ)) (now : T) (n : ℕ)
      → IsOrderly d links initials earlier → Asks answers first earlier now
      → IsTimely d links initials earlier (filter n) → ¬ IsAsked earlier (filter n)
      → can_filter now n

-- the last question was answered by an error; it and those before it are in order
pub record EndsInError {E T : Type 0} (answers : T → Question → Option (List ℕ) → T → Type 0)
    (d : DependencyDirection) (links : List (Link E)) (initials : List Bool)
    (first last : T) : Type 0 where
  pub trace : List (Question × List ℕ)
  pub question : Question
  pub state : T
  pub asks : Asks answers first trace state
  pub error : answers state question None last
  pub orderly : IsOrderly d links initials trace
  pub new : ¬ IsAsked trace question
  pub timely : IsTimely d links initials trace question

-- the positions that following the links adds to a set: those to which they lead and that it lacks,
-- each once
pub record Adds {E : Type 0} (d : DependencyDirection) (links : List (Link E)) (numbers : List ℕ)
    (set : List Bool) (added : List ℕ) (after : List Bool) : Type 0 where
  pub once : EachAfter (λ before p. ¬ Contains before p) added
  pub lacked : (p : ℕ) → Contains added p → ¬ IsIn set p
  pub led_to : (p : ℕ) → Contains added p → IsLedTo d links numbers p
  pub followed : (p : ℕ) → IsLedTo d links numbers p → IsIn after p
  pub after_has : (p : ℕ) → IsIn after p ↔ (IsIn set p ⊎ Contains added p)

module _ {V F : Type 0} where
  -- the closure may be called on the graph and the link
  abbrev pub MayCallOn : (F → Bor V → ℕ → Type 0) → V → F → ℕ → Type 0
  MayCallOn pre graph f n = (r : Bor V) → r.now ≡ graph → pre f r n

  -- what a call of the closure on the graph and the link may do
  abbrev pub CallsOn : (F → Bor V → ℕ → Bool → F → Type 0) → V → F → ℕ → Bool → F → Type 0
  CallsOn step graph f n answer t = (r : Bor V) × (r.now ≡ graph) × step f r n answer t

-- the link alone where the answer is true, and otherwise none; memory for it was refused only where
-- it is true
abbrev pub HandsBackIf : {F : Type 0} → (F → ℕ → Bool → F → Type 0) → F → ℕ → Option (List ℕ) → F
    → Type 0
HandsBackIf calls f n answer t = MatchOption answer (calls f n true t)
    (λ handed. (b : Bool) × calls f n b t × (handed ≡ (if b then n ∷ [] else [])))
