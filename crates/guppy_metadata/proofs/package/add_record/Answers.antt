use Rattle.std.proofs.Common.{ap, subst}
use Rattle.std.specs.Prelude.{is_ok}
use Rattle.std.specs.Option.{option_copied}
use Rattle.guppy_data.specs.Utf8Path.{path_text}
use Rattle.guppy_data.specs.declared.records.PackageRecord.{PackageRecord}
use Rattle.guppy_metadata.specs.Package.{IsFrom}
use Rattle.guppy_metadata.proofs.package.add_record.Goals as goal

pub returns : goal.returns
returns c =
    let r = c.in_ok-record.record.now in
    let source = c.in_ok-record-2.field-0 in
    let final = record r { source = source } in
    let was = c.in_ok-record.ensures.value in (
      final,
      (c.push_mut.follows.holds final (ap is_ok c.in_ok-record.was)).0,
      record {
        source = subst (λ b. IsFrom (path_text c.args.root) r.manifest_path b (option_copied c.args.package.source) source) c.contains-is_member.ensures
            (subst (λ manifest. IsFrom (path_text c.args.root) manifest c.contains-is_member.result (option_copied c.args.package.source) source) c.as_path.ensures c.in_ok-record-2.ensures);
        record_is = ap (λ (q : PackageRecord). record q { source = source }) was;
      },
    )
