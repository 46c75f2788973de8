use Rattle.std.proofs.Common.{◌≡◌, ◌++◌, All, Some, map}
use Rattle.std.specs.Prelude.{slice_get}
use Rattle.std.specs.String.{string_bytes}
use Rattle.indexmap.specs.IndexMap.{keys}
use Rattle.guppy_data.specs.declared.records.PackageRecord.{PackageRecord}
use Rattle.guppy_built.specs.Features.{IsFeature, feature_shown}
use Rattle.guppy_built.specs.Rows.{IsFeatureOn}
use Rattle.guppy_built.specs.Those.{AreThose}
use Rattle.guppy_built.proofs.askers.features_at.Given as goal

abbrev pub invariant-loop-name : goal.invariant-loop-name
invariant-loop-name l = record {
  all : (r : PackageRecord) → slice_get l.graph.packages l.position ≡ Some r → map (λ name. name.now) l.yielded ++ l.name-iterator ≡ keys r.named_features;
  those : AreThose (IsFeatureOn l.set l.position l.side) (map (λ name. string_bytes name.now) l.yielded) (map (λ on. on.name.now) l.rows.items);
  each : All (IsFeature l.set l.position l.side) (map feature_shown l.rows.items);
}
