use Rattle.guppy_arguments.proofs.CalledPackages.{called_more}
use Rattle.guppy_arguments.proofs.names.called_by_text.Goals as goal

pub loop-package-preserved : goal.loop-package-preserved
loop-package-preserved c text =
    let r = c.package-item.result in
    let more = called_more c.args.packages.now c.loop-package.package-index r r c.loop-package-test.true c.package-item.is text in
    let was = c.loop-package.invariant text in
    let added = c.in_ok-add_package.ensures text in
    cc
