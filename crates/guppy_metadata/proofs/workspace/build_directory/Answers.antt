use Rattle.std.proofs.Common.{ℕ, inl, inr, List, Option, None, Some, codes}
use Rattle.json.specs.Json.{Json}
use Rattle.guppy_metadata.specs.Members.{data_of, IsText}
use Rattle.guppy_metadata.specs.Workspace.{IsBuildDirectory}
use Rattle.guppy_metadata.proofs.Refused.{refused}
use Rattle.guppy_metadata.proofs.workspace.build_directory.Goals as goal

told : (d : Json) (target : List ℕ) (path : Option (List ℕ)) → IsBuildDirectory d target path → (text : Option (List ℕ)) × IsText (codes "build_directory") d text
told d target None (inl is) = (None, is)
told d target None (inr is) = (Some target, is)
told d target (Some path) is = (Some path, is.0)

pub returns-in_err-path : goal.returns-in_err-path
returns-in_err-path c = refused _ _ _ c.from_residual.ensures (λ made holds. told (data_of c.args.metadata) made.0 made.1 holds.1) c.in_err-path.ensures
