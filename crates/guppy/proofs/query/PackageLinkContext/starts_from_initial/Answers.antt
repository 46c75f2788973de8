use Rattle.guppy_search.specs.Links.{seen_link}
use Rattle.guppy_search.proofs.LinkEnds.{near-seen}
use Rattle.guppy.specs.Views.{link_data}
use Rattle.guppy.proofs.ShownLinks.{near_end-below, starts_there, starts_back}
use Rattle.guppy.proofs.query.PackageLinkContext.starts_from_initial.Goals as goal

pub package_at-package-requires : goal.package_at-package-requires
package_at-package-requires c = rw c.near_end-near_end.ensures (near_end-below c.direction.result c.link_at.result _ c.link_at.ensures.from c.link_at.ensures.to)

pub returns : goal.returns
returns c =
    let found = rw (near-seen c.direction.result c.link_at.result _ c.near_end-near_end.ensures, c.direction.ensures) at c.package_at-package.ensures in
    let has = rw (c.initials.ensures, c.query.ensures) at c.has_id.ensures in
    let link = link_data c.args.link.now in (
      λ h. starts_there c.args.self.now link (seen_link c.link_at.result) c.link_at.ensures.at c.package_at-package.result.now found (has.0 h),
      λ h. has.1 (starts_back c.args.self.now link (seen_link c.link_at.result) c.link_at.ensures.at c.package_at-package.result.now found h),
    )
