use Rattle.std.proofs.Common.{map}
use Rattle.std.proofs.lemmas.Result.{IfOk-weaker}
use Rattle.guppy_data.specs.Utf8Path.{path_text}
use Rattle.guppy_metadata.specs.Members.{is_among, is_in_set}
use Rattle.guppy_metadata.specs.Package.{IsRecordOf}
use Rattle.guppy_metadata.proofs.AlikeLists.{fits_too}
use Rattle.guppy_metadata.proofs.Packages.{record_alike}
use Rattle.guppy_metadata.proofs.package.package_records.Goals as goal

pub returns : goal.returns
returns c =
    let root = path_text c.args.root in
    let known = is_in_set c.in_ok-known.known in
    let told = is_among (map (λ id. id.now) c.args.members.now) in
    IfOk-weaker c.records_of.result _ _
    (λ records are. fits_too (IsRecordOf root known) (IsRecordOf root told) (record_alike root known told c.in_ok-known.ensures) c.args.packages.items records.items are) c.records_of.ensures
