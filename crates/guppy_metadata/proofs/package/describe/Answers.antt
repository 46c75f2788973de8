use Rattle.std.proofs.lemmas.Result.{IfOk-from_err}
use Rattle.json.specs.Json.{Json}
use Rattle.guppy_data.specs.declared.records.PackageRecord.{PackageRecord}
use Rattle.guppy_metadata.specs.Package.{HasPlainFields}
use Rattle.guppy_metadata.proofs.Refused.{refused}
use Rattle.guppy_metadata.proofs.package.describe.Goals as goal

-- what is filled in leaves what each package has
named_kept : (d : Json) (r : PackageRecord) (authors license_file categories keywords readme homepage documentation : _)
    → HasPlainFields d r → HasPlainFields d (record r { authors = authors; license_file = license_file; categories = categories; keywords = keywords; readme = readme; homepage = homepage; documentation = documentation })
named_kept d r authors license_file categories keywords readme homepage documentation is = record {
  known = record { id = is.known.id; name = is.known.name; version = is.known.version; manifest_path = is.known.manifest_path; edition = is.known.edition };
  shown = record { description = is.shown.description; license = is.shown.license; repository = is.shown.repository; publish = is.shown.publish };
}

pub returns-in_err-made-clause-refused : goal.returns-in_err-made-clause-refused
returns-in_err-made-clause-refused c = refused _ _ _ c.from_residual.ensures (λ r holds. (_, holds.authors)) c.in_err-made.ensures

pub returns-in_err-made-2-clause-refused : goal.returns-in_err-made-2-clause-refused
returns-in_err-made-2-clause-refused c = refused _ _ _ c.from_residual-in_err-made-2.ensures (λ r holds. (_, holds.license_file)) c.in_err-made-2.ensures

pub returns-in_err-made-3-clause-refused : goal.returns-in_err-made-3-clause-refused
returns-in_err-made-3-clause-refused c = refused _ _ _ c.from_residual-in_err-made-3.ensures (λ r holds. (_, holds.categories)) c.in_err-made-3.ensures

pub returns-in_err-made-4-clause-refused : goal.returns-in_err-made-4-clause-refused
returns-in_err-made-4-clause-refused c = refused _ _ _ c.from_residual-in_err-made-4.ensures (λ r holds. (_, holds.keywords)) c.in_err-made-4.ensures

pub returns-in_err-made-5-clause-refused : goal.returns-in_err-made-5-clause-refused
returns-in_err-made-5-clause-refused c = refused _ _ _ c.from_residual-in_err-made-5.ensures (λ r holds. (_, holds.readme)) c.in_err-made-5.ensures

pub returns-in_err-made-6-clause-refused : goal.returns-in_err-made-6-clause-refused
returns-in_err-made-6-clause-refused c = refused _ _ _ c.from_residual-in_err-made-6.ensures (λ r holds. (_, holds.homepage)) c.in_err-made-6.ensures

pub returns-in_err-made-7-clause-refused : goal.returns-in_err-made-7-clause-refused
returns-in_err-made-7-clause-refused c = refused _ _ _ c.from_residual-in_err-made-7.ensures (λ r holds. (_, holds.documentation)) c.in_err-made-7.ensures

pub returns-in_err-made-clause-described : goal.returns-in_err-made-clause-described
returns-in_err-made-clause-described c = IfOk-from_err _ _ c.from_residual.ensures.0

pub returns-in_err-made-clause-named : goal.returns-in_err-made-clause-named
returns-in_err-made-clause-named c d = named_kept d c.args.made.now _ _ _ _ _ _ _

pub returns-in_err-made-2-clause-described : goal.returns-in_err-made-2-clause-described
returns-in_err-made-2-clause-described c = IfOk-from_err _ _ c.from_residual-in_err-made-2.ensures.0

pub returns-in_err-made-2-clause-named : goal.returns-in_err-made-2-clause-named
returns-in_err-made-2-clause-named c d = named_kept d c.args.made.now _ _ _ _ _ _ _

pub returns-in_err-made-3-clause-described : goal.returns-in_err-made-3-clause-described
returns-in_err-made-3-clause-described c = IfOk-from_err _ _ c.from_residual-in_err-made-3.ensures.0

pub returns-in_err-made-3-clause-named : goal.returns-in_err-made-3-clause-named
returns-in_err-made-3-clause-named c d = named_kept d c.args.made.now _ _ _ _ _ _ _

pub returns-in_err-made-4-clause-described : goal.returns-in_err-made-4-clause-described
returns-in_err-made-4-clause-described c = IfOk-from_err _ _ c.from_residual-in_err-made-4.ensures.0

pub returns-in_err-made-4-clause-named : goal.returns-in_err-made-4-clause-named
returns-in_err-made-4-clause-named c d = named_kept d c.args.made.now _ _ _ _ _ _ _

pub returns-in_err-made-5-clause-described : goal.returns-in_err-made-5-clause-described
returns-in_err-made-5-clause-described c = IfOk-from_err _ _ c.from_residual-in_err-made-5.ensures.0

pub returns-in_err-made-5-clause-named : goal.returns-in_err-made-5-clause-named
returns-in_err-made-5-clause-named c d = named_kept d c.args.made.now _ _ _ _ _ _ _

pub returns-in_err-made-6-clause-described : goal.returns-in_err-made-6-clause-described
returns-in_err-made-6-clause-described c = IfOk-from_err _ _ c.from_residual-in_err-made-6.ensures.0

pub returns-in_err-made-6-clause-named : goal.returns-in_err-made-6-clause-named
returns-in_err-made-6-clause-named c d = named_kept d c.args.made.now _ _ _ _ _ _ _

pub returns-in_err-made-7-clause-described : goal.returns-in_err-made-7-clause-described
returns-in_err-made-7-clause-described c = IfOk-from_err _ _ c.from_residual-in_err-made-7.ensures.0

pub returns-in_err-made-7-clause-named : goal.returns-in_err-made-7-clause-named
returns-in_err-made-7-clause-named c d = named_kept d c.args.made.now _ _ _ _ _ _ _

pub returns-clause-named : goal.returns-clause-named
returns-clause-named c d = named_kept d c.args.made.now _ _ _ _ _ _ _
