-- What JSON resolves a dependency to, it resolves it to alone.
use Rattle.std.proofs.Common.{◌≡◌, codes}
use Rattle.std.specs.List.{AllZip}
use Rattle.std.specs.Option.{option_copied}
use Rattle.json.specs.Json.{Json}
use Rattle.json.specs.Find.{get}
use Rattle.guppy_metadata.specs.declared.types.Resolved.{Resolved}
use Rattle.guppy_metadata.specs.declared.types.Usage.{Usage}
use Rattle.guppy_metadata.specs.Links.{IsUsage, IsResolved}
use Rattle.guppy_metadata.proofs.AlikeLists.{lists_fit}
use Rattle.guppy_metadata.proofs.OnceTold.{text_once, optional_text_once, section_once}

-- usages in the same section and on the same platforms
pub record UsedAlike (a b : Usage) : Type 0 where
  pub section : a.section ≡ b.section
  pub target : option_copied a.target ≡ option_copied b.target

-- dependencies with the same ID, name and usages
pub record ResolvedAlike (a b : Resolved) : Type 0 where
  pub id : a.id.now ≡ b.id.now
  pub name : a.name.now ≡ b.name.now
  pub usages : AllZip UsedAlike a.usages.items b.usages.items

usage_once : (d : Json) (a b : Usage) → IsUsage d a → IsUsage d b → UsedAlike a b
usage_once d a b is also = record {
  section = section_once d a.section b.section is.section also.section;
  target = optional_text_once d (codes "target") (option_copied a.target) (option_copied b.target) is.target also.target;
}

-- one JSON resolves a dependency alike
pub resolved_once : (d : Json) (a b : Resolved) → IsResolved d a → IsResolved d b → ResolvedAlike a b
resolved_once d a b is also = record {
  id = text_once d (codes "pkg") a.id.now b.id.now is.id_is also.id_is;
  name = text_once d (codes "name") a.name.now b.name.now is.name_is also.name_is;
  usages = lists_fit IsUsage IsUsage UsedAlike usage_once (get (codes "dep_kinds") d) a.usages.items b.usages.items is.usages_are also.usages_are;
}
