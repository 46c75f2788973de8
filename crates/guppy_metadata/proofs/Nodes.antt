-- What a node tells, where a member is put behind its others.
use Rattle.std.proofs.Common.{◌≡◌, ◌∙◌, Bool, true, false, List, IsSomeAnd, codes, sym, subst}
use Rattle.json.specs.Json.{Json}
use Rattle.json.specs.Find.{get}
use Rattle.guppy_data.specs.declared.records.LinkRecord.{LinkRecord}
use Rattle.guppy_metadata.specs.declared.types.Package.{Package}
use Rattle.guppy_metadata.specs.Links.{IsLink}
use Rattle.guppy_metadata.specs.Members.{IsListOf}
use Rattle.guppy_metadata.specs.Node.{AreLinksRead}

module _ (packages : List Package) (d e : Json) (row : List LinkRecord) where
  pub links_kept : (has_links : Bool) → get (codes "id") d ≡ get (codes "id") e → get (codes "deps") d ≡ get (codes "deps") e → AreLinksRead packages d has_links row → AreLinksRead packages e has_links row
  links_kept true id_same deps_same are = record {
    id = are.id;
    id_is = sym id_same ∙ are.id_is;
    links_are = subst (λ o. IsSomeAnd o (λ deps. IsListOf (IsLink packages are.id) deps row)) deps_same are.links_are;
  }
  links_kept false id_same deps_same are = are
