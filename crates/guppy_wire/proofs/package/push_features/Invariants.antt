use Rattle.std.proofs.Common.{◌≡◌, ◌++◌, string_bytes}
use Rattle.std.specs.List.{flat_map}
use Rattle.guppy_wire.specs.Package.{named_feature_text}
use Rattle.guppy_wire.proofs.package.push_features.Given as goal

abbrev pub invariant-loop-feature : goal.invariant-loop-feature
invariant-loop-feature l = string_bytes l.text ++ flat_map named_feature_text l.feature-iterator ≡ string_bytes l.initial.text ++ flat_map named_feature_text l.features.entries
