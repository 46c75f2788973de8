use Rattle.std.proofs.Common.{◌≡◌, ◌∙◌, true, map, refl, sym, subst, codes}
use Rattle.guppy_metadata.specs.Members.{are_among, is_among, data_of}
use Rattle.guppy_metadata.specs.Package.{are_known}
use Rattle.guppy_metadata.proofs.ObjectMembers.{workspace_alike}
use Rattle.guppy_metadata.proofs.Packages.{packages_are}
use Rattle.guppy_metadata.proofs.ShownPackages.{ids_of_whole, records_shown}
use Rattle.guppy_metadata.proofs.by_item.records_with.Goals as goal

pub returns : goal.returns
returns g c details d same shown links read are =
    let packages = c.args.shown.packages.items in
    let ids = map (λ id. id.now) c.in_ok-members.members.items in
    let known : are_known packages ids ≡ true = rw (sym c.as_slice.ensures.value, sym c.as_slice-2.ensures.value) c.in_ok-check_members.ensures in
    let all = records_shown _ (is_among ids) shown.whole shown.left packages _ shown.shown.short shown.slim (rw (sym c.as_slice-3.ensures.value) c.in_ok-left.ensures) in (
      read,
      all.0,
      record { shown = _; left = _; took_are = shown.shown.took_are; shown_are = all.1.shown_are; left_are = all.1.left_are; short = all.1.short },
      record {
        packages_are = packages_are details d c.in_ok-text.field-0.now _ ids shown.whole _ c.new-root.ensures
            (sym (same (codes "workspace_root") (refl, refl)) ∙ c.in_ok-text.ensures) (sym (same (codes "workspace_members") (refl, refl)) ∙ c.in_ok-members.ensures)
            shown.told (subst (λ own. are_among own ids ≡ true) (sym (ids_of_whole g.P.PackageSink.took details d c.args.shown shown)) known) all.1.are;
        links_are = are;
        workspace_is = workspace_alike (data_of c.args.metadata) d same c.in_ok-workspace.workspace c.in_ok-workspace.ensures;
      },
    )
