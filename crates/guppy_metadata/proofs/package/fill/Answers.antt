use Rattle.std.proofs.lemmas.Result.{IfOk-from_err}
use Rattle.json.specs.Json.{Json}
use Rattle.guppy_data.specs.declared.records.PackageRecord.{PackageRecord}
use Rattle.guppy_metadata.specs.Package.{HasPlainFields, HasDescription}
use Rattle.guppy_metadata.proofs.Refused.{failed, refused, lacking}
use Rattle.guppy_metadata.proofs.package.fill.Goals as goal

-- what is filled in leaves what each package has
named_kept : (d : Json) (r : PackageRecord) (table links default_run rust_version named_features optional_deps : _)
    → HasPlainFields d r → HasPlainFields d (record r { metadata_table = table; links = links; default_run = default_run; rust_version = rust_version; named_features = named_features; optional_deps = optional_deps })
named_kept d r table links default_run rust_version named_features optional_deps is = record {
  known = record { id = is.known.id; name = is.known.name; version = is.known.version; manifest_path = is.known.manifest_path; edition = is.known.edition };
  shown = record { description = is.shown.description; license = is.shown.license; repository = is.shown.repository; publish = is.shown.publish };
}

-- and what is told of it for people
described_kept : (d : Json) (r : PackageRecord) (table links default_run rust_version named_features optional_deps : _)
    → HasDescription d r → HasDescription d (record r { metadata_table = table; links = links; default_run = default_run; rust_version = rust_version; named_features = named_features; optional_deps = optional_deps })
described_kept d r table links default_run rust_version named_features optional_deps is = record {
  authors = is.authors;
  license_file = is.license_file;
  categories = is.categories;
  keywords = is.keywords;
  readme = is.readme;
  homepage = is.homepage;
  documentation = is.documentation;
}

pub returns-in_err-made-clause-refused : goal.returns-in_err-made-clause-refused
returns-in_err-made-clause-refused c = refused _ _ _ c.from_residual.ensures (λ r holds. (_, holds.metadata_table)) c.in_err-made.ensures

pub returns-in_err-made-2-clause-refused : goal.returns-in_err-made-2-clause-refused
returns-in_err-made-2-clause-refused c = refused _ _ _ c.from_residual-in_err-made-2.ensures (λ r holds. (_, holds.links)) c.in_err-made-2.ensures

pub returns-in_err-made-3-clause-refused : goal.returns-in_err-made-3-clause-refused
returns-in_err-made-3-clause-refused c = refused _ _ _ c.from_residual-in_err-made-3.ensures (λ r holds. (_, holds.default_run)) c.in_err-made-3.ensures

pub returns-in_err-made-4-clause-refused : goal.returns-in_err-made-4-clause-refused
returns-in_err-made-4-clause-refused c = refused _ _ _ c.from_residual-in_err-made-4.ensures (λ r holds. (r.rust_version, holds.rust_version)) c.in_err-made-4.ensures

pub returns-in_err-made-5-clause-refused : goal.returns-in_err-made-5-clause-refused
returns-in_err-made-5-clause-refused c = refused _ _ _ c.from_residual-in_err-made-5.ensures (λ r holds. (_, holds.features)) c.in_err-made-5.ensures

pub returns-in_err-made-6-clause-refused : goal.returns-in_err-made-6-clause-refused
returns-in_err-made-6-clause-refused c = failed _ _ _ _ c.from_residual-in_err-made-6.ensures (λ e is. lacking _ e is)

pub returns-in_err-made-clause-filled : goal.returns-in_err-made-clause-filled
returns-in_err-made-clause-filled c = IfOk-from_err _ _ c.from_residual.ensures.0

pub returns-in_err-made-clause-optional : goal.returns-in_err-made-clause-optional
returns-in_err-made-clause-optional c = IfOk-from_err _ _ c.from_residual.ensures.0

pub returns-in_err-made-clause-named : goal.returns-in_err-made-clause-named
returns-in_err-made-clause-named c d = named_kept d c.args.made.now _ _ _ _ _ _

pub returns-in_err-made-clause-described : goal.returns-in_err-made-clause-described
returns-in_err-made-clause-described c d = described_kept d c.args.made.now _ _ _ _ _ _

pub returns-in_err-made-2-clause-filled : goal.returns-in_err-made-2-clause-filled
returns-in_err-made-2-clause-filled c = IfOk-from_err _ _ c.from_residual-in_err-made-2.ensures.0

pub returns-in_err-made-2-clause-optional : goal.returns-in_err-made-2-clause-optional
returns-in_err-made-2-clause-optional c = IfOk-from_err _ _ c.from_residual-in_err-made-2.ensures.0

pub returns-in_err-made-2-clause-named : goal.returns-in_err-made-2-clause-named
returns-in_err-made-2-clause-named c d = named_kept d c.args.made.now _ _ _ _ _ _

pub returns-in_err-made-2-clause-described : goal.returns-in_err-made-2-clause-described
returns-in_err-made-2-clause-described c d = described_kept d c.args.made.now _ _ _ _ _ _

pub returns-in_err-made-3-clause-filled : goal.returns-in_err-made-3-clause-filled
returns-in_err-made-3-clause-filled c = IfOk-from_err _ _ c.from_residual-in_err-made-3.ensures.0

pub returns-in_err-made-3-clause-optional : goal.returns-in_err-made-3-clause-optional
returns-in_err-made-3-clause-optional c = IfOk-from_err _ _ c.from_residual-in_err-made-3.ensures.0

pub returns-in_err-made-3-clause-named : goal.returns-in_err-made-3-clause-named
returns-in_err-made-3-clause-named c d = named_kept d c.args.made.now _ _ _ _ _ _

pub returns-in_err-made-3-clause-described : goal.returns-in_err-made-3-clause-described
returns-in_err-made-3-clause-described c d = described_kept d c.args.made.now _ _ _ _ _ _

pub returns-in_err-made-4-clause-filled : goal.returns-in_err-made-4-clause-filled
returns-in_err-made-4-clause-filled c = IfOk-from_err _ _ c.from_residual-in_err-made-4.ensures.0

pub returns-in_err-made-4-clause-optional : goal.returns-in_err-made-4-clause-optional
returns-in_err-made-4-clause-optional c = IfOk-from_err _ _ c.from_residual-in_err-made-4.ensures.0

pub returns-in_err-made-4-clause-named : goal.returns-in_err-made-4-clause-named
returns-in_err-made-4-clause-named c d = named_kept d c.args.made.now _ _ _ _ _ _

pub returns-in_err-made-4-clause-described : goal.returns-in_err-made-4-clause-described
returns-in_err-made-4-clause-described c d = described_kept d c.args.made.now _ _ _ _ _ _

pub returns-in_err-made-5-clause-filled : goal.returns-in_err-made-5-clause-filled
returns-in_err-made-5-clause-filled c = IfOk-from_err _ _ c.from_residual-in_err-made-5.ensures.0

pub returns-in_err-made-5-clause-optional : goal.returns-in_err-made-5-clause-optional
returns-in_err-made-5-clause-optional c = IfOk-from_err _ _ c.from_residual-in_err-made-5.ensures.0

pub returns-in_err-made-5-clause-named : goal.returns-in_err-made-5-clause-named
returns-in_err-made-5-clause-named c d = named_kept d c.args.made.now _ _ _ _ _ _

pub returns-in_err-made-5-clause-described : goal.returns-in_err-made-5-clause-described
returns-in_err-made-5-clause-described c d = described_kept d c.args.made.now _ _ _ _ _ _

pub returns-in_err-made-6-clause-filled : goal.returns-in_err-made-6-clause-filled
returns-in_err-made-6-clause-filled c = IfOk-from_err _ _ c.from_residual-in_err-made-6.ensures.0

pub returns-in_err-made-6-clause-optional : goal.returns-in_err-made-6-clause-optional
returns-in_err-made-6-clause-optional c = IfOk-from_err _ _ c.from_residual-in_err-made-6.ensures.0

pub returns-in_err-made-6-clause-named : goal.returns-in_err-made-6-clause-named
returns-in_err-made-6-clause-named c d = named_kept d c.args.made.now _ _ _ _ _ _

pub returns-in_err-made-6-clause-described : goal.returns-in_err-made-6-clause-described
returns-in_err-made-6-clause-described c d = described_kept d c.args.made.now _ _ _ _ _ _

pub returns-clause-named : goal.returns-clause-named
returns-clause-named c d = named_kept d c.args.made.now _ _ _ _ _ _

pub returns-clause-described : goal.returns-clause-described
returns-clause-described c d = described_kept d c.args.made.now _ _ _ _ _ _
