use Rattle.guppy_data.specs.Utf8Path.{path_text}
use Rattle.indexmap.proofs.SetLemmas.{AllZip-push}
use Rattle.guppy_metadata.specs.Members.{is_in_set}
use Rattle.guppy_metadata.specs.Package.{IsRecordOf}
use Rattle.guppy_metadata.proofs.package.records_of.Goals as goal

pub loop-package-preserved : goal.loop-package-preserved
loop-package-preserved c =
    let added = c.in_ok-add_record.ensures in
    rw added.1 (AllZip-push (IsRecordOf (path_text c.args.root) (is_in_set c.args.members.now)) _ _ _ _ c.loop-package.invariant added.2)
