use Rattle.std.proofs.Common.{◌≡◌, ◌∙◌, true, false, [], ◌∷◌, ◌++◌, Some, if◌then◌else◌, cond, codes, IsSomeAnd, sym, ap, subst}
use Rattle.std.specs.Str.{bytes_eq}
use Rattle.std.proofs.lemmas.Slice.Eq.{bytes_eq-Decides}
use Rattle.json.specs.Find.{get_member}
use Rattle.json.specs.Value.{value_view, members_view}
use Rattle.json.proofs.Trees.{get_member-push}
use Rattle.guppy_metadata.specs.Members.{IsListOf}
use Rattle.guppy_metadata.specs.Package.{IsParsedPackage}
use Rattle.guppy_metadata.proofs.ObjectMembers.{kept, put, links_alike}
use Rattle.guppy_metadata.proofs.Options.{if_some, if_none}
use Rattle.guppy_metadata.proofs.ShownPackages.{all_there, still_shown, slim_further, links_read}
use Rattle.guppy_metadata.proofs.Turns.{of_ok}
use Rattle.guppy_metadata.proofs.told.read_member.Goals as goal

pub returns-in_ok-ok : goal.returns-in_ok-ok
returns-in_ok-ok g c =
    let name = c.args.name.now in
    let told = value_view c.in_ok-value.value in
    let others = c.args.so_far.now.others.items in
    let grown = others ++ (c.args.name, c.in_ok-value.value) ∷ [] in
    let pushed : c.push.new.self.items ≡ grown = c.push.ensures.items ∙ ap (λ well. if well then grown else others) (sym c.in_ok-ok.ensures.variant) in
    let no_packages : bytes_eq name (codes "packages") ≡ false = sym c.if-eq.ensures in
    let no_resolve : bytes_eq name (codes "resolve") ≡ false = sym c.if-eq-2.ensures in (
      told,
      of_ok _ _ c.read.result _ c.in_ok-value.ensures.value c.read.ensures.ok,
      λ d e adds tells. record {
        packages_are = still_shown g.P.PackageSink.took c.args.details d e (kept d e name told adds (codes "packages") no_packages) c.args.so_far.now.packages tells.packages_are;
        links_are = if_some c.args.so_far.now.links
            (λ read are. (are.0, are.1, links_alike d e c.args.details are.0 (kept d e name told adds (codes "packages") no_packages) (kept d e name told adds (codes "resolve") no_resolve) are.2)) tells.links_are;
        others_are = λ wanted other. ap (λ rows. get_member wanted (members_view rows)) pushed
            ∙ (get_member-push wanted others (c.args.name, c.in_ok-value.value) ∙ (ap (cond (bytes_eq name wanted) (Some told)) (tells.others_are wanted other) ∙ sym (adds wanted)));
      },
    )

pub returns-in_ok-read_packages : goal.returns-in_ok-read_packages
returns-in_ok-read_packages g c =
    let name = c.args.name.now in
    let shown = c.in_ok-read_packages.field-0 in
    let more = c.in_ok-read_packages.ensures in
    let here : bytes_eq name (codes "packages") ≡ true = sym c.if-eq.ensures in
    let is = (bytes_eq-Decides name (codes "packages")).0 here in (
      more.0,
      more.1,
      λ d e adds tells. record {
        packages_are = all_there g.P.PackageSink.took c.args.details e shown more.2 (subst (λ o. IsSomeAnd o (λ told. IsListOf (IsParsedPackage c.args.details) told more.2)) (put d e name more.0 adds (codes "packages") here) more.3) more.4;
        links_are = if_none _ c.args.so_far.now.links c.if-is_some.ensures;
        others_are = λ wanted other. tells.others_are wanted other ∙ kept d e name more.0 adds wanted (subst (λ n. bytes_eq n wanted ≡ false) (sym is) other.0);
      },
    )

pub returns-in_ok-read_links : goal.returns-in_ok-read_links
returns-in_ok-read_links g c =
    let name = c.args.name.now in
    let more = c.in_ok-read_links.ensures.links in
    let here : bytes_eq name (codes "resolve") ≡ true = sym c.if-eq-2.ensures in
    let no_packages : bytes_eq name (codes "packages") ≡ false = sym c.if-eq.ensures in
    let is = (bytes_eq-Decides name (codes "resolve")).0 here in (
      more.0,
      more.1,
      λ d e adds tells.
          let same = kept d e name more.0 adds (codes "packages") no_packages in record {
            packages_are = slim_further g.P.PackageSink.took c.args.details d e same c.args.so_far.now.packages _ tells.packages_are c.in_ok-read_links.ensures.left;
            links_are = (more.2, more.3, links_read g.P.PackageSink.took c.args.details d e same c.args.so_far.now.packages more.2 more.0 (put d e name more.0 adds (codes "resolve") here) tells.packages_are more.4);
            others_are = λ wanted other. ap (λ rows. get_member wanted (members_view rows)) (ap (λ own. own.items) c.read_links.ensures.others)
                ∙ (tells.others_are wanted other ∙ kept d e name more.0 adds wanted (subst (λ n. bytes_eq n wanted ≡ false) (sym is) other.1));
          },
    )
