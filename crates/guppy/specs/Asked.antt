-- What a callback answers about packages, one after another.
use Rattle.std.specs.Prelude.{◌≡◌, ◌↔◌, ℕ, Bool, List, ◌∷◌, ◌++◌, map}
use Rattle.std.specs.List.{Contains, FoldsTo}
use Rattle.guppy_search.specs.IxSet.{IsIn, IsUnion}
use Rattle.guppy.specs.declared.metadata.PackageMetadata.{PackageMetadata}
use Rattle.guppy_graph.specs.Graph.{GraphData}
use Rattle.guppy.specs.Views.{package_in, package_data}

-- A list of answers has the position of each package that was asked about, with the answer.

-- the positions that were asked about
abbrev pub asked_about : {A : Type 0} → List (ℕ × A) → List ℕ
asked_about answers = map (λ entry. entry.0) answers

module _ {F A : Type 0} where
  -- a call of the callback with the graph's package at the position may give the answer
  abbrev pub AnswersAt : (F → PackageMetadata → A → F → Type 0) → GraphData → F → ℕ → A → F → Type 0
  AnswersAt step graph f p answer g =
      (m : PackageMetadata) × step f m answer g × (package_data m ≡ package_in graph p)

  -- the callback's states over the answers: each step is one of its calls
  abbrev pub Answers : (F → PackageMetadata → A → F → Type 0) → GraphData → F → List (ℕ × A) → F
      → Type 0
  Answers step graph = FoldsTo (λ state entry next. AnswersAt step graph state entry.0 entry.1 next)

  -- the callback may be called with the graph's package at each of the positions in turn, after any
  -- answers that it may give to those before
  pub record IsAskable (pre : F → PackageMetadata → Type 0)
      (step : F → PackageMetadata → A → F → Type 0) (graph : GraphData) (positions : List ℕ)
      (callback : F) : Type 0 where
    pub at : (earlier : List (ℕ × A)) (now : F) (p : ℕ) (later : List ℕ) (m : PackageMetadata)
        → asked_about earlier ++ p ∷ later ≡ positions → Answers step graph callback earlier now
        → package_data m ≡ package_in graph p → pre now m

-- the set has exactly the positions that got the answer
abbrev pub AreAnswered : {A : Type 0} → List (ℕ × A) → A → List Bool → Type 0
AreAnswered answers answer set = (p : ℕ) → IsIn set p ↔ Contains answers (p, answer)

-- no position is in both halves, and those in one of them are those of the set
pub record AreHalves (set first second : List Bool) : Type 0 where
  pub disjoint : (p : ℕ) → IsIn first p → ¬ IsIn second p
  pub union : IsUnion first second set
