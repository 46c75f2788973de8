-- What is said of a package's record whatever the package's source is.
use Rattle.std.proofs.Common.{◌≡◌, sym, ap, subst}
use Rattle.json.specs.Json.{Json}
use Rattle.guppy_data.specs.declared.records.Details.{Details}
use Rattle.guppy_data.specs.declared.records.PackageRecord.{PackageRecord}
use Rattle.guppy_data.specs.declared.records.PackageSourceRecord.{PackageSourceRecord}
use Rattle.guppy_metadata.specs.Package.{HasDescription, HasDetails, HasCargoFields, HasPlainFields, HasNoDetails, IsPlaced}

module _ (r : PackageRecord) (source : PackageSourceRecord) where
  abbrev with_source : PackageRecord
  with_source = record r { source = source }

  named : (d : Json) → HasPlainFields d r → HasPlainFields d with_source
  named d is = record {
    known = record { id = is.known.id; name = is.known.name; version = is.known.version; manifest_path = is.known.manifest_path; edition = is.known.edition };
    shown = record { description = is.shown.description; license = is.shown.license; repository = is.shown.repository; publish = is.shown.publish };
  }

  described : (d : Json) → HasDescription d r → HasDescription d with_source
  described d is = record { authors = is.authors; license_file = is.license_file; categories = is.categories; keywords = is.keywords; readme = is.readme; homepage = is.homepage; documentation = is.documentation }

  filled : (d : Json) → HasCargoFields d r → HasCargoFields d with_source
  filled d is = record { metadata_table = is.metadata_table; links = is.links; default_run = is.default_run; rust_version = is.rust_version; features = is.features }

  plain : HasNoDetails r → HasNoDetails with_source
  plain is = record {
    authors = is.authors;
    license_file = is.license_file;
    categories = is.categories;
    keywords = is.keywords;
    readme = is.readme;
    homepage = is.homepage;
    documentation = is.documentation;
    metadata_table = is.metadata_table;
    links = is.links;
    default_run = is.default_run;
    rust_version = is.rust_version;
    features = is.features;
    optional_deps = is.optional_deps;
  }

  detailed : (details : Details) (d : Json) → HasDetails details d r → HasDetails details d with_source
  detailed details d is = record { described = λ all. described d (is.described all); filled = λ all. filled d (is.filled all); plain = λ none. plain (is.plain none) }

module _ (r placed : PackageRecord) (is : IsPlaced r placed) where
  pub placed_named : (d : Json) → HasPlainFields d r → HasPlainFields d placed
  placed_named d has = subst (HasPlainFields d) (sym is) (named r placed.source d has)

  pub placed_detailed : (details : Details) (d : Json) → HasDetails details d r → HasDetails details d placed
  placed_detailed details d has = subst (HasDetails details d) (sym is) (detailed r placed.source details d has)

  pub placed_targets : placed.build_targets ≡ r.build_targets
  placed_targets = ap (λ own. own.build_targets) is

  pub placed_optional : placed.optional_deps ≡ r.optional_deps
  placed_optional = ap (λ own. own.optional_deps) is
