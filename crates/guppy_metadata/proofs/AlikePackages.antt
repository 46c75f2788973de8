-- Packages that are told by objects with the same members, but for the dependencies.
use Rattle.std.proofs.Common.{◌≡◌, ◌∙◌, ℕ, true, false, List, map, Option, None, Some, IsSomeAnd, option_map, option_and_then, refl, sym, ap, subst, codes}
use Rattle.std.specs.Prelude.{unwrap_or, string_bytes}
use Rattle.std.specs.Str.{bytes_eq}
use Rattle.json.specs.Json.{Json, null}
use Rattle.json.specs.Find.{get}
use Rattle.semver.specs.declared.Version.{Version}
use Rattle.serde_json.specs.View.{view}
use Rattle.guppy_data.specs.declared.records.BuildTargetRecord.{BuildTargetRecord}
use Rattle.guppy_data.specs.declared.records.Details.{Details}
use Rattle.guppy_data.specs.declared.records.Details.TheVariants.{With, Without}
use Rattle.guppy_data.specs.declared.records.PackagePublishRecord.{PackagePublishRecord}
use Rattle.guppy_data.specs.declared.records.PackagePublishRecord.TheVariants.{Unrestricted, Registries}
use Rattle.guppy_data.specs.declared.records.PackageRecord.{PackageRecord}
use Rattle.guppy_metadata.specs.Feature.{AreFeatures}
use Rattle.guppy_metadata.specs.Members.{unless_null, IsText, IsListOf}
use Rattle.guppy_metadata.specs.Package.{HasPlainFields, HasDescription, HasCargoFields, HasDetails, IsPublishable, IsRustVersion, AreAlike, AreAskedTargets, is_asked}
use Rattle.guppy_metadata.specs.Table.{IsTable}
use Rattle.guppy_metadata.specs.Target.{IsTarget}
use Rattle.guppy_metadata.proofs.ObjectMembers.{texts_alike}

-- what is asked for without details is asked for with them
asked_too : (details : Details) (name : List ℕ) → is_asked Without name ≡ true → is_asked details name ≡ true
asked_too With name asked = refl
asked_too Without name asked = asked

present_alike : (d e : Json) (name : List ℕ) → get name d ≡ get name e → option_and_then unless_null (get name e) ≡ option_and_then unless_null (get name d)
present_alike d e name same = ap (option_and_then unless_null) (sym same)

text_same : (d e : Json) (name : List ℕ) (text : Option (List ℕ)) → get name d ≡ get name e → IsText name d text → IsText name e text
text_same d e name text same is = present_alike d e name same ∙ is

-- what is read with details or without
module _ (details : Details) (d e : Json) (same : AreAlike details d e) where
  pub plain_same : (name : List ℕ) → bytes_eq (codes "dependencies") name ≡ false → is_asked Without name ≡ true → get name d ≡ get name e
  plain_same name no_dependencies plain = same name (no_dependencies, asked_too details name plain)

  pub text_alike : (name : List ℕ) (text : Option (List ℕ)) → bytes_eq (codes "dependencies") name ≡ false → is_asked Without name ≡ true → IsText name d text → IsText name e text
  text_alike name text no_dependencies plain is = text_same d e name text (plain_same name no_dependencies plain) is

  publish_alike : (publish : PackagePublishRecord) → IsPublishable d publish → IsPublishable e publish
  publish_alike Unrestricted is = present_alike d e (codes "publish") (plain_same (codes "publish") refl refl) ∙ is
  publish_alike (Registries names) is = present_alike d e (codes "publish") (plain_same (codes "publish") refl refl) ∙ is

  pub named_alike : (r : PackageRecord) → HasPlainFields d r → HasPlainFields e r
  named_alike r is = record {
    known = record {
      id = sym (plain_same (codes "id") refl refl) ∙ is.known.id;
      name = sym (plain_same (codes "name") refl refl) ∙ is.known.name;
      version = (is.known.version.0, sym (plain_same (codes "version") refl refl) ∙ is.known.version.1, is.known.version.2);
      manifest_path = sym (plain_same (codes "manifest_path") refl refl) ∙ is.known.manifest_path;
      edition = sym (plain_same (codes "edition") refl refl) ∙ is.known.edition;
    };
    shown = record {
      description = text_alike (codes "description") (option_map string_bytes r.description) refl refl is.shown.description;
      license = text_alike (codes "license") (option_map string_bytes r.license) refl refl is.shown.license;
      repository = text_alike (codes "repository") (option_map string_bytes r.repository) refl refl is.shown.repository;
      publish = publish_alike r.publish is.shown.publish;
    };
  }

-- the details
module _ (d e : Json) (same : AreAlike With d e) where
  own_same : (name : List ℕ) → bytes_eq (codes "dependencies") name ≡ false → get name d ≡ get name e
  own_same name no_dependencies = same name (no_dependencies, refl)

  detail_alike : (name : List ℕ) (text : Option (List ℕ)) → bytes_eq (codes "dependencies") name ≡ false → IsText name d text → IsText name e text
  detail_alike name text no_dependencies is = text_same d e name text (own_same name no_dependencies) is

  described_alike : (r : PackageRecord) → HasDescription d r → HasDescription e r
  described_alike r is = record {
    authors = texts_alike d e (codes "authors") (map string_bytes r.authors.items) (own_same (codes "authors") refl) is.authors;
    license_file = detail_alike (codes "license_file") r.license_file refl is.license_file;
    categories = texts_alike d e (codes "categories") (map string_bytes r.categories.items) (own_same (codes "categories") refl) is.categories;
    keywords = texts_alike d e (codes "keywords") (map string_bytes r.keywords.items) (own_same (codes "keywords") refl) is.keywords;
    readme = detail_alike (codes "readme") r.readme refl is.readme;
    homepage = detail_alike (codes "homepage") (option_map string_bytes r.homepage) refl is.homepage;
    documentation = detail_alike (codes "documentation") (option_map string_bytes r.documentation) refl is.documentation;
  }

  rust_version_alike : (version : Option Version) → IsRustVersion d version → IsRustVersion e version
  rust_version_alike None is = detail_alike (codes "rust_version") None refl is
  rust_version_alike (Some version) is = (is.0, detail_alike (codes "rust_version") (Some is.0) refl is.1, is.2)

  filled_alike : (r : PackageRecord) → HasCargoFields d r → HasCargoFields e r
  filled_alike r is = record {
    metadata_table = subst (λ told. IsTable (unwrap_or told null) (view r.metadata_table)) (own_same (codes "metadata") refl) is.metadata_table;
    links = detail_alike (codes "links") (option_map string_bytes r.links) refl is.links;
    default_run = detail_alike (codes "default_run") (option_map string_bytes r.default_run) refl is.default_run;
    rust_version = rust_version_alike r.rust_version is.rust_version;
    features = subst (λ o. IsSomeAnd o (λ told. AreFeatures told r.named_features.entries)) (own_same (codes "features") refl) is.features;
  }

-- the details, where they are read
pub detailed_alike : (details : Details) (d e : Json) (same : AreAlike details d e) (r : PackageRecord) → HasDetails details d r → HasDetails details e r
detailed_alike With d e same r is = record {
  described = λ all. described_alike d e same r (is.described all);
  filled = λ all. filled_alike d e same r (is.filled all);
  plain = is.plain;
}
detailed_alike Without d e same r is = record {
  described = λ all. cc;
  filled = λ all. cc;
  plain = is.plain;
}

-- the build targets, where they are read
pub targets_alike : (details : Details) (d e : Json) (same : AreAlike details d e) (targets : List BuildTargetRecord) → AreAskedTargets details d targets → AreAskedTargets details e targets
targets_alike With d e same targets are = record {
  told = λ all. subst (λ o. IsSomeAnd o (λ told. IsListOf IsTarget told targets)) (own_same d e same (codes "targets") refl) (are.told all);
  left_out = are.left_out;
}
targets_alike Without d e same targets are = record {
  told = λ all. cc;
  left_out = are.left_out;
}
