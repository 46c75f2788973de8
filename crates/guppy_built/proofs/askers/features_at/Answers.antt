use Rattle.std.proofs.Common.{◌≡◌, ◌∙◌, Bor, List, ℕ, String, Vec, Global, map, ap, sym, subst}
use Rattle.std.specs.Prelude.{All, slice_get}
use Rattle.std.proofs.lemmas.List.{map_push}
use Rattle.std.proofs.lemmas.List.Elements.{All-nil, All-push}
use Rattle.std.proofs.lemmas.Simd.{map-map}
use Rattle.std.specs.String.{string_bytes}
use Rattle.indexmap.specs.IndexMap.{keys}
use Rattle.guppy_data.specs.declared.records.PackageRecord.{PackageRecord}
use Rattle.guppy_data.specs.declared.texts.named_feature.NamedFeatureDep.{NamedFeatureDep}
use Rattle.guppy_graph.specs.Graph.{GraphData}
use Rattle.guppy_built.specs.Features.{FeatureData, IsFeature, feature_shown}
use Rattle.guppy_built.specs.Rows.{IsFeatureOn, feature_names}
use Rattle.guppy_built.specs.Those.{AreThose, none}
use Rattle.guppy_built.specs.declared.askers.FeatureOn.{FeatureOn}
use Rattle.guppy_built.proofs.Those.{all_given, next_left, told_less, told_more}
use Rattle.guppy_built.proofs.askers.features_at.Goals as goal

pub loop-name-init : goal.loop-name-init
loop-name-init c = record {
  all = λ r is.
      let same : c.package_at-package.result.now ≡ r = cc in
      c.into_iter-name-iterator.ensures.into_iter_gives ∙ c.keys-name-items.ensures.rest ∙ ap (λ (r : PackageRecord). keys r.named_features) same;
  those = rw c.new-rows.ensures.items none;
  each = rw c.new-rows.ensures.items (All-nil (IsFeature c.args.set.now c.args.position c.args.side));
}

pub loop-name-preserved-in-Continue-branch-3 : goal.loop-name-preserved-in-Continue-branch-3
loop-name-preserved-in-Continue-branch-3 c =
    let P = IsFeatureOn c.args.set.now c.args.position c.args.side in
    let Q = IsFeature c.args.set.now c.args.position c.args.side in
    let name = c.in-Some.name in
    let rows = c.loop-name.rows.items in
    let on = c.in-Some-2.on in
    let is : P c.as_str.result.now = rw c.in-Some-2.is at c.in_ok-on.ensures.on in
    let named : on.name.now ≡ c.as_str.result.now = rw c.in-Some-2.is at c.in_ok-on.ensures.named in
    let feature : Q (feature_shown on) = rw c.in-Some-2.is at c.in_ok-on.ensures.feature in
    let pushed = c.in_ok-push.ensures.items in
    record {
      all = λ r found. next_left (keys r.named_features) c.loop-name.yielded name c.loop-name.name-iterator c.next.new.self (c.loop-name.invariant.all r found) c.in-Some.ensures.steps;
      those = told_more P (λ (n : Bor (String Global)). string_bytes n.now) (λ (on : FeatureOn). on.name.now) c.loop-name.yielded name rows c.push.new.self.items on
          c.loop-name.invariant.those (subst P c.as_str.ensures.value is) (named ∙ c.as_str.ensures.value) pushed;
      each = subst (All Q) (sym (ap (map feature_shown) pushed ∙ map_push feature_shown rows on)) (All-push Q (map feature_shown rows) (feature_shown on) c.loop-name.invariant.each feature);
    }

pub loop-name-preserved : goal.loop-name-preserved
loop-name-preserved c =
    let P = IsFeatureOn c.args.set.now c.args.position c.args.side in
    let name = c.in-Some.name in
    record {
      all = λ r found. next_left (keys r.named_features) c.loop-name.yielded name c.loop-name.name-iterator c.next.new.self (c.loop-name.invariant.all r found) c.in-Some.ensures.steps;
      those = told_less P (λ (n : Bor (String Global)). string_bytes n.now) (λ (on : FeatureOn). on.name.now) c.loop-name.yielded name _ c.loop-name.invariant.those
          (subst (λ text. ¬ P text) c.as_str.ensures.value (c.in_ok-on.ensures.off c.in_default.is));
      each = c.loop-name.invariant.each;
    }

pub returns : goal.returns
returns c =
    let P = IsFeatureOn c.args.set.now c.args.position c.args.side in
    let r = c.package_at-package.result.now in
    let given = all_given (keys r.named_features) c.loop-name.yielded c.loop-name.name-iterator (c.loop-name.invariant.all r c.package_at-package.ensures) c.in-None.ensures.steps.0 in
    let names : map (λ (n : Bor (String Global)). string_bytes n.now) c.loop-name.yielded ≡ feature_names r =
    sym (map-map string_bytes (λ (n : Bor (String Global)). n.now) c.loop-name.yielded) ∙ ap (map string_bytes) given
    ∙ map-map string_bytes (λ (e : String Global × Vec NamedFeatureDep Global). e.0) r.named_features.entries in
    let rows = c.loop-name.rows.items in
    let names_told = map (λ (row : FeatureData). row.name) (map feature_shown rows) in
    let told : names_told ≡ map (λ (on : FeatureOn). on.name.now) rows = map-map (λ (row : FeatureData). row.name) feature_shown rows in
    let yielded = map (λ (n : Bor (String Global)). string_bytes n.now) c.loop-name.yielded in
    record {
      record_is = r;
      found = ap (λ (g : GraphData). slice_get g.packages c.args.position) c.requires.graph ∙ c.package_at-package.ensures;
      those = subst (λ (texts : List (List ℕ)). AreThose P texts names_told) names (subst (AreThose P yielded) (sym told) c.loop-name.invariant.those);
      each = c.loop-name.invariant.each;
    }
