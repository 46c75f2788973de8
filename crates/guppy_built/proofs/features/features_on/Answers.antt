use Rattle.std.proofs.Common.{◌≡◌, ◌∙◌, Bor, List, ℕ, String, Vec, Global, map, ap, sym, subst, rules}
use Rattle.std.proofs.lemmas.Simd.{map-map}
use Rattle.std.specs.String.{string_bytes}
use Rattle.indexmap.specs.IndexMap.{keys}
use Rattle.guppy_data.specs.declared.texts.named_feature.NamedFeatureDep.{NamedFeatureDep}
use Rattle.guppy_built.specs.Rows.{IsFeatureOn, feature_names}
use Rattle.guppy_built.specs.Those.{AreThose, none}
use Rattle.guppy_built.proofs.Those.{all_given, next_left, told_less, told_more}
use Rattle.guppy_built.proofs.features.features_on.Goals as goal

pub loop-name-init : goal.loop-name-init
loop-name-init c = record {
  all = c.into_iter-name-iterator.ensures.into_iter_gives ∙ c.keys-name-items.ensures.rest;
  those = rw c.new-names.ensures.items none;
}

pub loop-name-preserved-in-Continue-1 : goal.loop-name-preserved-in-Continue-1
loop-name-preserved-in-Continue-1 c =
    let P = IsFeatureOn c.args.set.now c.args.position c.args.side in
    let name = c.in-Some.name in
    record {
      all = next_left (keys c.args.«package».now.named_features) c.loop-name.yielded name c.loop-name.name-iterator c.next.new.self c.loop-name.invariant.all c.in-Some.ensures.steps;
      those = told_more P (λ (n : Bor (String Global)). string_bytes n.now) (λ (n : Bor (List ℕ)). n.now) c.loop-name.yielded name c.loop-name.names.items c.push.new.self.items c.as_str-then-is_feature_on.result
          c.loop-name.invariant.those (subst P c.as_str.ensures.value (c.is_feature_on.ensures.0 c.if-is_feature_on.true)) c.as_str-then-is_feature_on.ensures.value c.in_ok-push.ensures.items;
    }

pub loop-name-preserved : goal.loop-name-preserved
loop-name-preserved c =
    let P = IsFeatureOn c.args.set.now c.args.position c.args.side in
    let name = c.in-Some.name in
    record {
      all = next_left (keys c.args.«package».now.named_features) c.loop-name.yielded name c.loop-name.name-iterator c.next.new.self c.loop-name.invariant.all c.in-Some.ensures.steps;
      those = told_less P (λ (n : Bor (String Global)). string_bytes n.now) (λ (n : Bor (List ℕ)). n.now) c.loop-name.yielded name _ c.loop-name.invariant.those
          (λ on. search rules);
    }

pub returns : goal.returns
returns c =
    let P = IsFeatureOn c.args.set.now c.args.position c.args.side in
    let entries = c.args.«package».now.named_features.entries in
    let given = all_given (keys c.args.«package».now.named_features) c.loop-name.yielded c.loop-name.name-iterator c.loop-name.invariant.all c.in-None.ensures.steps.0 in
    let names : map (λ (n : Bor (String Global)). string_bytes n.now) c.loop-name.yielded ≡ feature_names c.args.«package».now =
    sym (map-map string_bytes (λ (n : Bor (String Global)). n.now) c.loop-name.yielded) ∙ ap (map string_bytes) given
    ∙ map-map string_bytes (λ (e : String Global × Vec NamedFeatureDep Global). e.0) entries in
    subst (λ all. AreThose P all (map (λ (n : Bor (List ℕ)). n.now) c.loop-name.names.items)) names c.loop-name.invariant.those
