use Rattle.std.proofs.Common.{◌≡◌, true, IsSomeAnd, map, refl, sym, subst}
use Rattle.json.specs.Value.{value_view}
use Rattle.guppy_metadata.specs.Links.{AreLinksWith, AreLinksOfAll, AreLinksOfList}
use Rattle.guppy_metadata.specs.Members.{data_of}
use Rattle.guppy_metadata.specs.Package.{are_known}
use Rattle.guppy_metadata.proofs.Packages.{packages_are}
use Rattle.guppy_metadata.proofs.Refused.{refused}
use Rattle.guppy_metadata.proofs.SaidRecords.{links_there, members_there, nodes_there, packages_there}
use Rattle.guppy_metadata.proofs.whole.records_in.Goals as goal

pub returns-in_err-nodes : goal.returns-in_err-nodes
returns-in_err-nodes c = refused _ _ _ c.from_residual.ensures (λ said are. nodes_there c.args.details (data_of c.args.metadata) said.0 said.1 said.2 are) c.in_err-nodes.ensures

pub returns-in_err-workspace : goal.returns-in_err-workspace
returns-in_err-workspace c = refused _ _ _ c.from_residual-in_err-workspace.ensures (λ said are. (said.2, are.workspace_is)) c.in_err-workspace.ensures

pub returns-in_err-members : goal.returns-in_err-members
returns-in_err-members c = refused _ _ _ c.from_residual-in_err-members.ensures (λ said are. members_there c.args.details (data_of c.args.metadata) said.0 said.1 said.2 are) c.in_err-members.ensures

pub returns-in_err-packages : goal.returns-in_err-packages
returns-in_err-packages c = refused _ _ _ c.from_residual-in_err-packages.ensures (λ said are. packages_there c.args.details (data_of c.args.metadata) said.0 said.1 said.2 are) c.in_err-packages.ensures

pub returns-in_err-links : goal.returns-in_err-links
returns-in_err-links c =
    let d = data_of c.args.metadata in
    let packages = c.as_slice.ensures.value in
    let members = c.as_slice-2.ensures.value in
    let nodes = c.as_slice-nodes.ensures.value in
    refused _ _ _ c.from_residual-in_err-links.ensures
    (λ said are. (said.1, rw (packages, members, nodes) (links_there c.args.details d said.0 said.1 said.2 are c.in_ok-packages.packages.items _ _ c.in_ok-packages.ensures c.in_ok-nodes.ensures c.in_ok-members.ensures)))
    c.in_err-links.ensures

pub returns : goal.returns
returns c =
    let d = data_of c.args.metadata in
    let packages = c.in_ok-packages.packages.items in
    let ids = map (λ id. id.now) c.in_ok-members.members.items in
    let nodes = map value_view c.in_ok-nodes.nodes.now.items in
    let links = c.in_ok-links.links.items in
    let between : (are_known packages ids ≡ true) × AreLinksOfAll packages nodes links =
    rw (sym c.as_slice.ensures.value, sym c.as_slice-2.ensures.value, sym c.as_slice-nodes.ensures.value) c.in_ok-links.ensures in
    let links_are : AreLinksWith c.args.details d links = record {
      packages = packages;
      packages_are = c.in_ok-packages.ensures;
      links_are = subst (λ o. IsSomeAnd o (λ nodes. AreLinksOfList packages nodes links)) (sym c.in_ok-nodes.ensures) (nodes, refl, between.1);
    } in record {
      packages_are = packages_are c.args.details d c.in_ok-workspace.workspace.root _ ids packages _ c.as_path-root.ensures c.in_ok-workspace.ensures.root c.in_ok-members.ensures c.in_ok-packages.ensures between.0
          (rw (sym c.as_slice-3.ensures.value) c.in_ok-packages-2.ensures);
      links_are = links_are;
      workspace_is = c.in_ok-workspace.ensures;
    }
