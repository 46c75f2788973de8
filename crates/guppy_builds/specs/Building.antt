-- What a set of builds stands for.
use Rattle.std.specs.Prelude.{ℕ, List}
use Rattle.guppy_features.specs.Questions.{Question, question_of as asked_question}
use Rattle.guppy_builds.specs.declared.building.Building.{Building}

-- what is asked of Cargo, and the chosen members
pub record Builds : Type 0 where
  pub question : Question
  pub members : List ℕ

abbrev pub builds : Question → List ℕ → Builds
builds q members = record { question = q; members = members }

-- the question whose features are known
abbrev pub question_of : Building → Question
question_of b = asked_question b.asked
