-- What the JSON has that says records.
use Rattle.std.proofs.Common.{◌≡◌, ◌∙◌, ℕ, true, List, Some, IsSomeAnd, sym, ap, subst, codes}
use Rattle.json.specs.Json.{Json, Items, array}
use Rattle.json.specs.Find.{get}
use Rattle.json.specs.Value.{items_of}
use Rattle.guppy_data.specs.declared.records.Details.{Details}
use Rattle.guppy_data.specs.declared.records.LinkRecord.{LinkRecord}
use Rattle.guppy_data.specs.declared.records.PackageRecord.{PackageRecord}
use Rattle.guppy_data.specs.declared.records.WorkspaceRecord.{WorkspaceRecord}
use Rattle.guppy_metadata.specs.declared.types.Package.{Package}
use Rattle.guppy_metadata.specs.Links.{AreLinksOfAll, AreLinksOfList, nodes_in}
use Rattle.guppy_metadata.specs.Members.{are_among, is_among, list_of}
use Rattle.guppy_metadata.specs.Package.{AreParsedPackages, are_known}
use Rattle.guppy_metadata.specs.Records.{AreRecordsWith}
use Rattle.guppy_metadata.proofs.OnceTold.{items_once, list_once}
use Rattle.guppy_metadata.proofs.Options.{some_told}
use Rattle.guppy_metadata.proofs.Packages.{same_ids}
use Rattle.guppy_metadata.proofs.SamePackages.{links_between_told}

module _ (details : Details) (d : Json) (records : List PackageRecord) (links : List LinkRecord) (workspace : WorkspaceRecord) (are : AreRecordsWith details d records links workspace) where
  pub nodes_there : (nodes : Items) × (nodes_in d ≡ Some (array nodes))
  nodes_there = let nodes = some_told (nodes_in d) are.links_are.links_are in (items_of nodes.2.0, nodes.1 ∙ ap Some nodes.2.1)

  pub members_there : (ids : List (List ℕ)) × (get (codes "workspace_members") d ≡ Some (list_of ids))
  members_there = (are.packages_are.1, are.packages_are.3)

  pub packages_there : (packages : List Package) × AreParsedPackages details d packages
  packages_there = (are.links_are.packages, are.links_are.packages_are)

  -- the links are those between whatever packages are read of it, of which each member is one
  pub links_there : (packages : List Package) (nodes : List Json) (ids : List (List ℕ)) → AreParsedPackages details d packages → nodes_in d ≡ Some (array (items_of nodes)) → get (codes "workspace_members") d ≡ Some (list_of ids)
      → (are_known packages ids ≡ true) × AreLinksOfAll packages nodes links
  links_there packages nodes ids tells nodes_are ids_are =
      let root = are.packages_are.0 in
      let members = are.packages_are.1 in
      let same = same_ids details d root (is_among members) packages records tells are.packages_are.5 in
      let between = links_between_told details d packages are.links_are.packages (array (items_of nodes)) links tells are.links_are.packages_are
      (subst (λ o. IsSomeAnd o (λ nodes. AreLinksOfList are.links_are.packages nodes links)) nodes_are are.links_are.links_are) in (
        subst (λ known. are_among known ids ≡ true) (sym same) (subst (λ ids. are_among _ ids ≡ true) (list_once d (codes "workspace_members") members ids are.packages_are.3 ids_are) are.packages_are.4),
        subst (λ js. AreLinksOfAll packages js links) (sym (items_once nodes between.0 between.1)) between.2,
      )
