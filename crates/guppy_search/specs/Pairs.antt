-- The first link with an unknown end, and the first that repeats a pair.
use Rattle.std.specs.List.{HoldsAt}
use Rattle.std.specs.Prelude.{take, map, true, All, ◌≡◌, ◌≢◌, ℕ, ◌<◌, List, length, Some, slice_get, slice_index}
use Rattle.guppy_search.specs.declared.graph_core.link.Link.{Link}
use Rattle.guppy_search.specs.Links.{SamePair, EndsBelow, is_unknown}

-- the position that the link n leads to
abbrev pub to_at : {E : Type 0} → List (Link E) → ℕ → ℕ
to_at {E} links n = slice_index (map (λ (l : Link E). l.to) links) n

-- the first i far ends are others
abbrev pub NoneTo : List ℕ → ℕ → ℕ → Type 0
NoneTo far to i = (k : ℕ) → k < i → slice_index far k ≢ to

-- the number n stands beside the first of the far ends that is the position
pub record IsFirstTo (row far : List ℕ) (to n : ℕ) : Type 0 where
  pub place : ℕ
  pub within : place < length row
  pub at : slice_index row place ≡ n
  pub leads : slice_index far place ≡ to
  pub none_before : NoneTo far to place

-- the first i far ends differ
abbrev pub LeadApart : List ℕ → ℕ → Type 0
LeadApart far i = (j k : ℕ) → j < k → k < i → slice_index far j ≢ slice_index far k

-- the number n stands beside the first of the far ends that an earlier one is
pub record IsFirstAgain (row far : List ℕ) (n : ℕ) : Type 0 where
  pub earlier : ℕ
  pub place : ℕ
  pub is_earlier : earlier < place
  pub within : place < length row
  pub at : slice_index row place ≡ n
  pub same : slice_index far earlier ≡ slice_index far place
  pub apart : LeadApart far place

-- the links with numbers below k have different pairs
abbrev pub SinglesBelow : {E : Type 0} → List (Link E) → ℕ → Type 0
SinglesBelow {E} links k = (i j : ℕ) (a b : Link E) → i < k → j < k → slice_get links i ≡ Some a
    → slice_get links j ≡ Some b → SamePair a b → i ≡ j

-- the link k has the pair of an earlier one, and no link before k has
pub record IsFirstRepeat {E : Type 0} (links : List (Link E)) (k : ℕ) : Type 0 where
  pub earlier : ℕ
  pub is_earlier : earlier < k
  pub first : Link E
  pub second : Link E
  pub first_found : slice_get links earlier ≡ Some first
  pub second_found : slice_get links k ≡ Some second
  pub same : SamePair first second
  pub singles : SinglesBelow links k

-- the link k is the first with an end that is no position below n
pub record IsFirstUnknown {E : Type 0} (n : ℕ) (links : List (Link E)) (k : ℕ) : Type 0 where
  pub within : k < length links
  pub unknown : HoldsAt (λ l. is_unknown n l ≡ true) links k
  pub before : All (EndsBelow n) (take k links)
