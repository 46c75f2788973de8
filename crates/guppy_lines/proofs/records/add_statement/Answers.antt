use Rattle.guppy_lines.proofs.RecordLines.{package_added, link_added}
use Rattle.guppy_lines.proofs.records.add_statement.Goals as goal

pub returns-in_ok-push_package-in-Package : goal.returns-in_ok-push_package-in-Package
returns-in_ok-push_package-in-Package c statements were =
    let added = c.in_ok-push_package-in-Package.ensures in
    rw (added.1, c.in-Package.is) (package_added _ _ _ _ _ added.2 statements were)

pub returns-in_ok-push_link-in-Link : goal.returns-in_ok-push_link-in-Link
returns-in_ok-push_link-in-Link c statements were =
    let added = c.in_ok-push_link-in-Link.ensures in
    rw (added.1, c.in-Link.is) (link_added _ _ _ _ _ _ _ added.2 statements were)
