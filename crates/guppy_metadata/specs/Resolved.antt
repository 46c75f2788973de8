-- What is told by the members of a resolved dependency's object that were read.
use Rattle.std.specs.Prelude.{◌≡◌, Some, IfSome, codes}
use Rattle.json.specs.Json.{Json, string}
use Rattle.json.specs.Find.{get}
use Rattle.guppy_metadata.specs.declared.types.ResolvedParts.{ResolvedParts}
use Rattle.guppy_metadata.specs.Links.{AreUsages}

-- the object of the first members tells this
pub record TellsResolved (d : Json) (parts : ResolvedParts) : Type 0 where
  pub name_is : IfSome parts.name (λ name. get (codes "name") d ≡ Some (string name.now))
  pub id_is : IfSome parts.id (λ id. get (codes "pkg") d ≡ Some (string id.now))
  pub usages_are : IfSome parts.usages (λ usages. AreUsages d usages.items)
