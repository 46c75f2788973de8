use Rattle.std.proofs.Common.{◌≡◌, None, map}
use Rattle.std.specs.String.{string_bytes}
use Rattle.std.proofs.lemmas.Result.{on_ok_weaker}
use Rattle.guppy_features.specs.Facts.{feature_fact, switched_fact}
use Rattle.guppy_features.specs.Dependencies.{seen_dependency, dependencies}
use Rattle.guppy_features.proofs.Adding.{adds_then, behind_either, behind_where, behind_of_some}
use Rattle.guppy_features.proofs.question.Asked.add_value.Goals as goal

pub returns-in-NamedFeature : goal.returns-in-NamedFeature
returns-in-NamedFeature c =
    let added = rw (c.feature.ensures, c.as_str.ensures.value) at c.add_rule.ensures in
    rw c.in-NamedFeature.is (on_ok_weaker c.add_rule.result (behind_where c.args.first None (feature_fact c.args.self.graph.now.packages c.args.position c.args.side (string_bytes c.in-NamedFeature.name))) added)

pub returns-in-OptionalDependency : goal.returns-in-OptionalDependency
returns-in-OptionalDependency c =
    let added = rw (c.switched.ensures, c.as_str-in-OptionalDependency.ensures.value) at c.add_rule-in-OptionalDependency.ensures in
    rw c.in-OptionalDependency.is (on_ok_weaker c.add_rule-in-OptionalDependency.result (behind_where c.args.first None (switched_fact c.args.self.graph.now.packages c.args.position c.args.side (string_bytes c.in-OptionalDependency.name))) added)

pub returns-in_ok-add_through_all-in-DependencyNamedFeature : goal.returns-in_ok-add_through_all-in-DependencyNamedFeature
returns-in_ok-add_through_all-in-DependencyNamedFeature c =
    let all : map seen_dependency c.args.dependencies.now ≡ dependencies c.args.self.graph.now c.args.position = c.requires.dependencies in
    let through = rw (all, c.as_str-in-DependencyNamedFeature.ensures.value, c.as_str-in-DependencyNamedFeature-2.ensures.value) at c.in_ok-add_through_all-in-DependencyNamedFeature.ensures in
    let unresolved = rw c.as_str-in-DependencyNamedFeature-3.ensures.value at c.add_unresolved.ensures in
    rw c.in-DependencyNamedFeature.is (on_ok_weaker c.add_unresolved.result (λ last. behind_either c.args.first (adds_then (behind_of_some c.args.first (dependencies c.args.self.graph.now c.args.position) through) last)) unresolved)
