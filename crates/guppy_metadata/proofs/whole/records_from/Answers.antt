use Rattle.std.proofs.Common.{◌∙◌, ◌++◌, ap, subst}
use Rattle.json.specs.Json.{document}
use Rattle.guppy_metadata.specs.Records.{AreRecordsWith}
use Rattle.guppy_metadata.proofs.Options.{some_and}
use Rattle.guppy_metadata.proofs.ShownPackages.{all_left}
use Rattle.guppy_metadata.proofs.whole.records_from.Goals as goal

pub returns-clause-records : goal.returns-clause-records
returns-clause-records c =
    let read = c.in_ok-packages.field-0 in
    some_and (document c.args.json.now) (λ d are.
    subst (λ packages. AreRecordsWith c.args.details d packages read.links.left.items read.workspace) (all_left read.packages are.packages are.packages_are)
    (subst (λ links. AreRecordsWith c.args.details d are.packages links read.workspace) (are.links_are.2 ∙ ap (λ taken. taken ++ read.links.left.items) are.links_are.1) are.said)) c.in_ok-packages.ensures.records
