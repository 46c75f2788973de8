use Rattle.std.proofs.Common.{ℕ, List, Option, None, Some, codes}
use Rattle.semver.specs.declared.Version.{Version}
use Rattle.json.specs.Json.{Json}
use Rattle.guppy_metadata.specs.Members.{data_of, IsText}
use Rattle.guppy_metadata.specs.Package.{IsRustVersion}
use Rattle.guppy_metadata.proofs.Refused.{refused}
use Rattle.guppy_metadata.proofs.package.rust_version.Goals as goal

text_told : (d : Json) (version : Option Version) → IsRustVersion d version → (text : Option (List ℕ)) × IsText (codes "rust_version") d text
text_told d None is = (None, is)
text_told d (Some version) is = (Some is.0, is.1)

pub returns-in_err-text : goal.returns-in_err-text
returns-in_err-text c = refused _ _ _ c.from_residual.ensures (text_told (data_of c.args.json)) c.in_err-text.ensures
