-- Records of which little is known.
use Rattle.std.specs.Prelude.{◌≡◌, [], None}
use Rattle.serde_json.specs.declared.value.Value.{Null}
use Rattle.guppy_data.specs.declared.records.LinkRecord.{LinkRecord}
use Rattle.guppy_data.specs.declared.records.PackageRecord.{PackageRecord}
use Rattle.guppy_data.specs.declared.records.PackagePublishRecord.TheVariants.{Unrestricted}
use Rattle.guppy_data.specs.declared.records.DependencyReqImpl.{DependencyReqImpl}
use Rattle.guppy_data.specs.declared.records.DepRequiredOrOptional.{DepRequiredOrOptional}
use Rattle.guppy_data.specs.Platform.{Status, Never, recorded_status}

-- nothing is known of the package beside its ID, name, version, source, manifest and edition
pub record IsBare (r : PackageRecord) : Type 0 where
  pub authors : r.authors.items ≡ []
  pub description : r.description ≡ None
  pub license : r.license ≡ None
  pub license_file : r.license_file ≡ None
  pub categories : r.categories.items ≡ []
  pub keywords : r.keywords.items ≡ []
  pub readme : r.readme ≡ None
  pub repository : r.repository ≡ None
  pub homepage : r.homepage ≡ None
  pub documentation : r.documentation ≡ None
  pub metadata_table : r.metadata_table ≡ Null
  pub links : r.links ≡ None
  pub publish : r.publish ≡ Unrestricted
  pub default_run : r.default_run ≡ None
  pub rust_version : r.rust_version ≡ None
  pub named_features : r.named_features.entries ≡ []
  pub optional_deps : r.optional_deps.keys ≡ []
  pub build_targets : r.build_targets.items ≡ []

-- built where the status says, with its default features and no others
pub record IsAskedFor (status : Status) (r : DepRequiredOrOptional) : Type 0 where
  pub build_if : recorded_status r.build_if ≡ status
  pub default_features_if : recorded_status r.default_features_if ≡ status
  pub no_default_features_if : recorded_status r.no_default_features_if ≡ Never
  pub feature_targets : r.feature_targets.entries ≡ []

-- required where the status says, and optional nowhere
pub record IsRequired (status : Status) (r : DependencyReqImpl) : Type 0 where
  pub required : IsAskedFor status r.required
  pub optional : IsAskedFor Never r.optional

-- the links differ in their sections at most
pub record AreSameButSections (link other : LinkRecord) : Type 0 where
  pub from : other.from ≡ link.from
  pub to : other.to ≡ link.to
  pub dep_name : other.dep_name ≡ link.dep_name
  pub resolved_name : other.resolved_name ≡ link.resolved_name
  pub version_req : other.version_req ≡ link.version_req
  pub registry : other.registry ≡ link.registry
  pub path : other.path ≡ link.path
