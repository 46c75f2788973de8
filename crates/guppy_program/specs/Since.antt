-- What is answered where there is a state before.
use Rattle.std.specs.Prelude.{◌≡◌, ℕ, List, ◌∷◌, ◌++◌, Option, Some, codes}
use Rattle.guppy_data.specs.Platform.{question_of}
use Rattle.guppy_graph.specs.Graph.{GraphData}
use Rattle.guppy_features.specs.declared.options.StandardFeatures.{StandardFeatures}
use Rattle.guppy_features.specs.declared.options.StandardFeatures.TheVariants.{Default, All}
use Rattle.guppy_affected.specs.Affected.{AreAffectedIdsAfter}
use Rattle.guppy_affected.specs.Folders.{Given}
use Rattle.guppy_changes.specs.Changes.{AreChanged, Setting}
use Rattle.guppy_command.specs.Asked.{Asked}
use Rattle.guppy_command.specs.Command.{Command, affected}
use Rattle.guppy_print.specs.Answer.{Answer, package_list}
use Rattle.guppy_program.specs.Answer.{AreGiven, IsAnswerOn}
use Rattle.guppy_program.specs.Builds.{places_of}

-- both states are built so: with these features, for the platforms that are asked about, and by the resolver
pub record IsSetting (asked : Asked) (standard : StandardFeatures) (s : Setting) : Type 0 where
  pub standard_is : s.standard ≡ standard
  pub target : question_of s.target ≡ asked.question
  pub host : question_of s.host ≡ asked.host
  pub resolver : s.resolver ≡ asked.resolver

-- the packages that changed between the states, where members are built with these features
pub record HaveChanged (asked : Asked) (before g : GraphData) (standard : StandardFeatures) (ids : List (List ℕ)) : Type 0 where
  pub setting : Setting
  pub is_setting : IsSetting asked standard setting
  pub changed : AreChanged before g setting ids

-- those that did with the default features of members, and those that did with all of them
pub record AreChangedSince (asked : Asked) (before g : GraphData) (ids : List (List ℕ)) : Type 0 where
  pub by_default : List (List ℕ)
  pub with_default : HaveChanged asked before g Default by_default
  pub by_all : List (List ℕ)
  pub with_all : HaveChanged asked before g All by_all
  pub ids_are : ids ≡ by_default ++ by_all

-- the members that changes at the paths affect, or the packages that changed between the states, where these folders
-- are given to packages; the workspace's `Cargo.lock` counts for what it changed alone
pub record TellsAffectedSince (asked : Asked) (before g : GraphData) (ignored : List (List ℕ)) (given : List Given)
    (paths : List (List ℕ)) (answer : Answer) : Type 0 where
  pub changed : List (List ℕ)
  pub are_changed : AreChangedSince asked before g changed
  pub ids : List (List ℕ)
  pub exact : AreAffectedIdsAfter g changed paths (codes "Cargo.lock" ∷ ignored) given ids
  pub told : answer ≡ package_list ids

-- and with folders that belong to the packages meant
pub record IsSinceAnswer (asked : Asked) (before g : GraphData) (meant : List ℕ → List (List ℕ))
    (ignored : List (List ℕ)) (also : List (List ℕ × List ℕ)) (paths : List (List ℕ)) (answer : Answer) : Type 0 where
  pub given : List Given
  pub named : AreGiven meant also given
  pub exact : TellsAffectedSince asked before g ignored given paths answer

-- an answer to the command, of what is affected since the state before, where there is one
abbrev pub IsAnswerSince : Asked → Option GraphData → (List ℕ → List (List ℕ)) → Command → GraphData → Answer → Type 0
IsAnswerSince asked (Some before) meant (affected ignored also paths) g answer =
    IsSinceAnswer asked before g meant ignored also paths answer
IsAnswerSince asked before meant command g answer = IsAnswerOn (places_of asked) meant command g answer
