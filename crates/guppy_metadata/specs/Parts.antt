-- What is told by the members of a package's object that were read.
use Rattle.std.specs.Prelude.{◌≡◌, ℕ, true, List, IfSome}
use Rattle.std.specs.Option.{option_copied}
use Rattle.json.specs.Json.{Json, object}
use Rattle.json.specs.Find.{get}
use Rattle.json.specs.Value.{members_view}
use Rattle.guppy_data.specs.declared.records.Details.{Details}
use Rattle.guppy_data.specs.declared.records.Details.TheVariants.{Without}
use Rattle.guppy_metadata.specs.declared.types.Parts.{Parts}
use Rattle.guppy_metadata.specs.Package.{AreDeclared, IsLibrary, IsOwn}

-- the object of the first members tells this
pub record TellsParts (details : Details) (d : Json) (parts : Parts) : Type 0 where
  pub declared_are : IfSome parts.declared (λ declared. AreDeclared details d declared.items)
  pub library_is : details ≡ Without → parts.has_targets ≡ true → IsLibrary d (option_copied parts.library)
  pub others_are : (name : List ℕ) → IsOwn details name → get name (object (members_view parts.others.items)) ≡ get name d
