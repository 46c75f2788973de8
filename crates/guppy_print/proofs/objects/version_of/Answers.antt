use Rattle.std.specs.Prelude.{slice_get}
use Rattle.std.proofs.lemmas.Result.{IfOk-weaker}
use Rattle.guppy.specs.Views.{graph_packages, package_position}
use Rattle.guppy_print.proofs.WrittenObjects.{version_told}
use Rattle.guppy_print.proofs.objects.version_of.Goals as goal

pub returns : goal.returns
returns c =
    let o = slice_get (graph_packages c.args.metadata) (package_position c.args.metadata) in
    IfOk-weaker c.format.result _ _ (λ text told. version_told o c.version-version.result.now c.version-version.ensures _ told) c.format.ensures.ok
