-- What a command answers of a package graph.
use Rattle.std.specs.Prelude.{ℕ, Bool, List}
use Rattle.guppy_command.specs.declared.options.Kinds.{Kinds}
use Rattle.guppy_dot.specs.Dot.{Drawing}
use Rattle.guppy_built.specs.Features.{FeatureData}
use Rattle.guppy_built.specs.Names.{StepData}
use Rattle.guppy_built.specs.Rows.{Row}

-- an answer, each package in it by its ID: a set of packages, packages in an order, links, each from one package to
-- another with the kinds of its sections, rows of packages, as cycles, rows of a package and those that need it, the
-- packages of a walk, each
-- with the kinds of the link that leads to it, what Cargo builds, why a feature is on, the features that are on, whether
-- something holds, that all is well, or packages and links as they are drawn
pub data Answer : Type 0 where
  package_set : List (List ℕ) → Answer
  package_list : List (List ℕ) → Answer
  package_links : List (List ℕ × List ℕ × Kinds) → Answer
  package_rows : List (List (List ℕ)) → Answer
  package_needs : List (List (List ℕ)) → Answer
  package_steps : List (List ℕ × Kinds) → Answer
  built_rows : List Row → Answer
  reasons : List StepData → Answer
  feature_rows : List FeatureData → Answer
  truth : Bool → Answer
  all_well : Answer
  drawing : Drawing → Answer
