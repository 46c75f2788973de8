-- Faults without where they lie in memory, and how one on what Cargo builds is told.
use Rattle.std.specs.Prelude.{ℕ, List, ◌++◌, codes, string_bytes}
use Rattle.guppy_process.specs.declared.fault.BuildFault.{BuildFault}
use Rattle.guppy_process.specs.declared.fault.BuildFault.TheVariants.{NoMember, UnknownFeature, LacksFeature, FeatureOff, Unresolved}
use Rattle.guppy_process.specs.declared.fault.Fault.{Fault}
use Rattle.guppy_process.specs.declared.fault.Fault.TheVariants.{Library, BadArguments, NoWalk, Unpublishable, Build, InputFailed, OutputFailed, Before}
use Rattle.guppy_process.specs.Cause.{BuildCause, Cause, library, bad_arguments, no_walk, unpublishable, build, bad_before, input_failed, output_failed, no_member, unknown_feature, lacks_feature, feature_off, unresolved}

abbrev pub build_cause_of : BuildFault → BuildCause
build_cause_of (NoMember word) = no_member (string_bytes word)
build_cause_of (UnknownFeature text) = unknown_feature (string_bytes text)
build_cause_of (LacksFeature owner feature) = lacks_feature (string_bytes owner) (string_bytes feature)
build_cause_of (FeatureOff owner feature) = feature_off (string_bytes owner) (string_bytes feature)
build_cause_of (Unresolved owner dependency) = unresolved (string_bytes owner) (string_bytes dependency)

abbrev pub build_fault_text : BuildFault → List ℕ
build_fault_text (NoMember word) = string_bytes word ++ codes " is no member of the workspace"
build_fault_text (UnknownFeature text) = codes "no chosen package has the feature " ++ string_bytes text
build_fault_text (LacksFeature owner feature) =
    string_bytes owner ++ (codes " has no feature " ++ string_bytes feature)
build_fault_text (FeatureOff owner feature) =
    codes "the feature " ++ (string_bytes feature ++ (codes " of " ++ (string_bytes owner ++ codes " isn't on")))
build_fault_text (Unresolved owner dependency) = string_bytes owner
    ++ (codes "'s optional dependency " ++ (string_bytes dependency
    ++ codes " isn't resolved: make the metadata with --all-features and the same --features, without --filter-platform"))

abbrev pub cause_shown : Fault → Cause
cause_shown (Library error) = library error
cause_shown BadArguments = bad_arguments
cause_shown (NoWalk from to) = no_walk (string_bytes from) (string_bytes to)
cause_shown (Unpublishable member needed) = unpublishable (string_bytes member) (string_bytes needed)
cause_shown (Build fault) = build (build_cause_of fault)
cause_shown (Before text) = bad_before (string_bytes text)
cause_shown InputFailed = input_failed
cause_shown OutputFailed = output_failed
