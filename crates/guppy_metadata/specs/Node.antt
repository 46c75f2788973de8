-- What is told by the members of a node's object that were read.
use Rattle.std.specs.Prelude.{◌≡◌, true, false, Bool, List, [], Some, IfSome, codes}
use Rattle.json.specs.Json.{Json, string}
use Rattle.json.specs.Find.{get}
use Rattle.guppy_data.specs.declared.records.LinkRecord.{LinkRecord}
use Rattle.guppy_metadata.specs.declared.types.Node.{Node}
use Rattle.guppy_metadata.specs.declared.types.Package.{Package}
use Rattle.guppy_metadata.specs.Links.{AreLinksOf}

-- these are the links that leave the node's package, or none where they weren't read yet
abbrev pub AreLinksRead : List Package → Json → Bool → List LinkRecord → Type 0
AreLinksRead packages d true row = AreLinksOf packages d row
AreLinksRead packages d false row = row ≡ []

-- the object of the first members tells this
pub record TellsNode (packages : List Package) (d : Json) (node : Node) (row : List LinkRecord) : Type 0 where
  pub from_is : IfSome node.from (λ from. get (codes "id") d ≡ Some (string from.now))
  pub links_are : AreLinksRead packages d node.has_links row
