-- The text of a package.
use Rattle.std.specs.Prelude.{ℕ, true, false, List, ◌++◌, codes, String, Vec}
use Rattle.std.specs.declared.alloc.Global.{Global}
use Rattle.guppy_data.specs.declared.records.BuildTargetKindRecord.{BuildTargetKindRecord}
use Rattle.guppy_data.specs.declared.records.BuildTargetKindRecord.TheVariants.{LibraryOrExample, ProcMacro, Binary as BinaryKind}
use Rattle.guppy_data.specs.declared.records.BuildTargetRecord.{BuildTargetRecord}
use Rattle.guppy_data.specs.declared.records.OwnedBuildTargetId.{OwnedBuildTargetId}
use Rattle.guppy_data.specs.declared.records.OwnedBuildTargetId.TheVariants.{Library, BuildScript, Binary, Example, Test, Benchmark}
use Rattle.guppy_data.specs.declared.records.PackagePublishRecord.{PackagePublishRecord}
use Rattle.guppy_data.specs.declared.records.PackagePublishRecord.TheVariants.{Unrestricted, Registries}
use Rattle.guppy_data.specs.declared.records.PackageRecord.{PackageRecord}
use Rattle.guppy_data.specs.declared.records.PackageSourceRecord.{PackageSourceRecord}
use Rattle.guppy_data.specs.declared.records.PackageSourceRecord.TheVariants.{Workspace, Path, External}
use Rattle.guppy_data.specs.declared.texts.named_feature.NamedFeatureDep.{NamedFeatureDep}
use Rattle.guppy_data.specs.declared.texts.named_feature.NamedFeatureDep.TheVariants.{NamedFeature, OptionalDependency, DependencyNamedFeature}
use Rattle.guppy_wire.specs.Parts.{field, string_field, version_field, optional, listed, yes_or_no}

-- `w`, `p` or `x`: a member at the path, a package at the path, one from elsewhere
abbrev pub source_text : PackageSourceRecord → List ℕ
source_text (Workspace path) = codes "w" ++ field path
source_text (Path path) = codes "p" ++ field path
source_text (External source) = codes "x" ++ string_field source

-- `*` for everywhere, else the registries
abbrev pub publish_text : PackagePublishRecord → List ℕ
publish_text Unrestricted = codes "*"
publish_text (Registries registries) = listed string_field registries.items

-- `f`, `d`, `s` or `w`: a named feature, an optional dependency, a feature of a dependency, a weak one
abbrev pub feature_dep_text : NamedFeatureDep → List ℕ
feature_dep_text (NamedFeature feature) = codes "f" ++ string_field feature
feature_dep_text (OptionalDependency dep_name) = codes "d" ++ string_field dep_name
feature_dep_text (DependencyNamedFeature dep_name feature false) =
    codes "s" ++ string_field dep_name ++ string_field feature
feature_dep_text (DependencyNamedFeature dep_name feature true) =
    codes "w" ++ string_field dep_name ++ string_field feature

-- a named feature, and what it switches on
abbrev pub named_feature_text : String Global × Vec NamedFeatureDep Global → List ℕ
named_feature_text feature = string_field feature.0 ++ listed feature_dep_text feature.1.items

-- `l`, `s`, `b`, `e`, `t` or `m`: the library, the build script, a binary, an example, a test, a benchmark
abbrev pub target_id_text : OwnedBuildTargetId → List ℕ
target_id_text Library = codes "l"
target_id_text BuildScript = codes "s"
target_id_text (Binary name) = codes "b" ++ string_field name
target_id_text (Example name) = codes "e" ++ string_field name
target_id_text (Test name) = codes "t" ++ string_field name
target_id_text (Benchmark name) = codes "m" ++ string_field name

-- `c`, `p` or `b`: crate types, a procedural macro, a binary
abbrev pub target_kind_text : BuildTargetKindRecord → List ℕ
target_kind_text (LibraryOrExample crate_types) = codes "c" ++ listed string_field crate_types
target_kind_text ProcMacro = codes "p"
target_kind_text BinaryKind = codes "b"

abbrev pub target_text : BuildTargetRecord → List ℕ
target_text r = target_id_text r.id ++ target_kind_text r.kind ++ optional string_field r.lib_name
    ++ listed string_field r.required_features.items ++ field r.path ++ string_field r.edition
    ++ yes_or_no r.doc_by_default ++ yes_or_no r.doctest_by_default ++ yes_or_no r.test_by_default

-- what else is told of a package, but for its free table
abbrev pub package_details : PackageRecord → List ℕ
package_details r = listed string_field r.authors.items ++ optional field r.license_file
    ++ listed string_field r.categories.items ++ listed string_field r.keywords.items
    ++ optional field r.readme ++ optional string_field r.homepage ++ optional string_field r.documentation
    ++ optional string_field r.links ++ publish_text r.publish ++ optional string_field r.default_run
    ++ optional version_field r.rust_version
    ++ listed named_feature_text r.named_features.entries
    ++ listed string_field r.optional_deps.keys
    ++ listed target_text r.build_targets.items

-- what a reader asks for first
abbrev pub package_text : PackageRecord → List ℕ
package_text r = field r.id ++ string_field r.name ++ version_field r.version
    ++ source_text r.source ++ field r.manifest_path ++ string_field r.edition
    ++ optional string_field r.description ++ optional string_field r.license ++ optional string_field r.repository
