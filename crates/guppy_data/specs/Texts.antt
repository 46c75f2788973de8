-- What `{}` prints of each value, as bytes. Numbers are decimal.
use Rattle.std.specs.Prelude.{ℕ, true, false, List, [], ◌∷◌, ◌++◌, codes}
use Rattle.std.specs.Fmt.{decimal}
use Rattle.std.specs.List.{flat_map, join_by}
use Rattle.std.specs.String.{string_bytes}
use Rattle.std.specs.declared.string.String.{String}
use Rattle.guppy_data.specs.declared.texts.dependency_kind.DependencyKind.{DependencyKind}
use Rattle.guppy_data.specs.declared.texts.dependency_kind.DependencyKind.TheVariants.{Normal, Development, Build}
use Rattle.guppy_data.specs.declared.texts.named_feature.NamedFeatureDep.{NamedFeatureDep}
use Rattle.guppy_data.specs.declared.texts.named_feature.NamedFeatureDep.TheVariants.{NamedFeature, OptionalDependency, DependencyNamedFeature}
use Rattle.guppy_data.specs.declared.texts.warning.FeatureBuildStage.{FeatureBuildStage}
use Rattle.guppy_data.specs.declared.texts.warning.FeatureBuildStage.TheVariants.{AddNamedFeatureEdges, AddDependencyEdges}
use Rattle.guppy_data.specs.declared.texts.warning.FeatureGraphWarning.{FeatureGraphWarning}
use Rattle.guppy_data.specs.declared.texts.warning.FeatureGraphWarning.TheVariants.{MissingFeature, SelfLoop}
use Rattle.guppy_data.specs.declared.texts.fault.ConstructFault.{ConstructFault}
use Rattle.guppy_data.specs.declared.texts.fault.ConstructFault.TheVariants.{TooManyPackages, RepeatedPackageId, RepeatedBuildTarget, UnnamedBuildTarget, RepeatedWorkspacePath, RepeatedWorkspaceName, UnknownDefaultMember, TooManyLinks, UnknownLinkEnd, RepeatedLink}
use Rattle.guppy_data.specs.declared.texts.fault.VerifyFault.{VerifyFault}
use Rattle.guppy_data.specs.declared.texts.fault.VerifyFault.TheVariants.{TargetKind, Version, NoSection, Cycle}
use Rattle.guppy_data.specs.declared.texts.error.Error.{Error}
use Rattle.guppy_data.specs.declared.texts.error.Error.TheVariants.{PackageGraphConstructError, UnknownPackageId, UnknownFeatureId, UnknownWorkspacePath, UnknownWorkspaceName, PackageGraphInternalError, FeatureGraphInternalError, OutOfMemory}

abbrev pub construct_fault_text : ConstructFault → List ℕ
construct_fault_text TooManyPackages = codes "too many packages"
construct_fault_text (RepeatedPackageId p) = codes "repeated package ID at package " ++ decimal p
construct_fault_text (RepeatedBuildTarget p t) =
    codes "repeated build target " ++ (decimal t ++ (codes " in package " ++ decimal p))
construct_fault_text (UnnamedBuildTarget p t) = codes "build target "
    ++ (decimal t ++ (codes " in package " ++ (decimal p ++ codes " has no name")))
construct_fault_text (RepeatedWorkspacePath p) =
    codes "repeated workspace path at package " ++ decimal p
construct_fault_text (RepeatedWorkspaceName p) =
    codes "repeated workspace name at package " ++ decimal p
construct_fault_text (UnknownDefaultMember i) = codes "unknown default member " ++ decimal i
construct_fault_text TooManyLinks = codes "too many links"
construct_fault_text (UnknownLinkEnd l) = codes "unknown package at link " ++ decimal l
construct_fault_text (RepeatedLink l) = codes "repeated link " ++ decimal l

-- the first of the IDs, if there is one
abbrev pub first_text : List (List ℕ) → List ℕ
first_text [] = []
first_text (id ∷ ids) = id

-- the IDs in a row, an arrow from each to the next, and from the last to the first
abbrev pub round_text : List (List ℕ) → List ℕ
round_text ids = flat_map (λ id. id ++ codes " -> ") ids ++ first_text ids

abbrev pub verify_fault_text : VerifyFault → List ℕ
verify_fault_text (TargetKind p t) = codes "build target "
    ++ (decimal t ++ (codes " in package " ++ (decimal p ++ codes " does not match its kind")))
verify_fault_text (Version l) = codes "version does not match requirement at link " ++ decimal l
verify_fault_text (NoSection l) = codes "no section at link " ++ decimal l
verify_fault_text (Cycle ids) =
    codes "cycle over links that are not dev-only: " ++ round_text ids.items

abbrev pub error_text : Error → List ℕ
error_text (PackageGraphConstructError f) =
    codes "failed to construct package graph: " ++ construct_fault_text f
error_text (UnknownPackageId id) = codes "unknown package ID: " ++ id
error_text (UnknownFeatureId id feature) =
    codes "unknown feature ID: '" ++ (id ++ (codes "/" ++ (string_bytes feature ++ codes "'")))
error_text (UnknownWorkspacePath path) = codes "unknown workspace path: " ++ path
error_text (UnknownWorkspaceName name) =
    codes "unknown workspace package name: " ++ string_bytes name
error_text (PackageGraphInternalError f) =
    codes "internal error in package graph: " ++ verify_fault_text f
error_text (FeatureGraphInternalError text) =
    codes "internal error in feature graph: " ++ string_bytes text
error_text OutOfMemory = codes "out of memory"

abbrev pub dependency_kind_text : DependencyKind → List ℕ
dependency_kind_text Normal = codes "normal"
dependency_kind_text Development = codes "dev"
dependency_kind_text Build = codes "build"

abbrev pub named_feature_text : NamedFeatureDep → List ℕ
named_feature_text (NamedFeature f) = string_bytes f
named_feature_text (OptionalDependency d) = codes "dep:" ++ string_bytes d
named_feature_text (DependencyNamedFeature d f false) =
    string_bytes d ++ (codes "/" ++ string_bytes f)
named_feature_text (DependencyNamedFeature d f true) =
    string_bytes d ++ (codes "?/" ++ string_bytes f)

-- the names in a row, with `, ` between each two
abbrev pub joined_text : {A : Type 0} → List (String A) → List ℕ
joined_text names = join_by string_bytes (codes ", ") names

abbrev pub set_text : {A : Type 0} → List (String A) → List ℕ
set_text names = codes "{" ++ (joined_text names ++ codes "}")

abbrev pub build_stage_text : FeatureBuildStage → List ℕ
build_stage_text (AddNamedFeatureEdges id f) = codes "for package '"
    ++ (id ++ (codes "', while adding named feature edges from '" ++ (string_bytes f ++ codes "'")))
build_stage_text (AddDependencyEdges id d) = codes "for package '"
    ++ (id ++ (codes "', while adding edges for dependency '" ++ (string_bytes d ++ codes "'")))

abbrev pub warning_text : FeatureGraphWarning → List ℕ
warning_text (MissingFeature stage id f) = build_stage_text stage
    ++ (codes ": for package '" ++
    (id ++ (codes "', missing feature '" ++ (string_bytes f ++ codes "'"))))
warning_text (SelfLoop id f) = codes "for package '"
    ++ (id ++ (codes "', self-loop detected for named feature '" ++ (string_bytes f ++ codes "'")))
