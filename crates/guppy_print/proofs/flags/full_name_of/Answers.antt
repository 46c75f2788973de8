use Rattle.std.specs.Prelude.{slice_get}
use Rattle.std.proofs.lemmas.Result.{IfOk-weaker}
use Rattle.guppy.specs.Views.{graph_packages, package_position}
use Rattle.guppy_print.proofs.FlaggedPackages.{full_name}
use Rattle.guppy_print.proofs.flags.full_name_of.Goals as goal

pub returns : goal.returns
returns c =
    let o = slice_get (graph_packages c.args.metadata) (package_position c.args.metadata) in
    IfOk-weaker c.format.result _ _ (λ full told. full_name o c.name-name.result.now c.version-version.result.now c.name-name.ensures c.version-version.ensures _ told) c.format.ensures.ok
