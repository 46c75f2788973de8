use Rattle.std.proofs.Common.{◌≡◌, ◌++◌, map}
use Rattle.std.specs.String.{string_bytes}
use Rattle.indexmap.specs.IndexMap.{keys}
use Rattle.guppy_built.specs.Rows.{IsFeatureOn}
use Rattle.guppy_built.specs.Those.{AreThose}
use Rattle.guppy_built.proofs.features.features_on.Given as goal

abbrev pub invariant-loop-name : goal.invariant-loop-name
invariant-loop-name l = record {
  all : map (λ name. name.now) l.yielded ++ l.name-iterator ≡ keys l.«package».named_features;
  those : AreThose (IsFeatureOn l.set l.position l.side) (map (λ name. string_bytes name.now) l.yielded) (map (λ name. name.now) l.names.items);
}
