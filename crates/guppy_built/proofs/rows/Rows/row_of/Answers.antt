use Rattle.std.proofs.Common.{◌∙◌, ap, sym, subst, refl, map, List, ℕ, Bor}
use Rattle.std.specs.Prelude.{slice_get}
use Rattle.guppy_data.specs.declared.platform.spec.PlatformSpec.{PlatformSpec}
use Rattle.guppy_graph.specs.Graph.{GraphData}
use Rattle.guppy_target.specs.Platform.{PlatformData}
use Rattle.guppy_features.specs.declared.fact.BuildPlatform.{BuildPlatform}
use Rattle.guppy_built.specs.Rows.{IsFeatureOn, feature_names, platform_name}
use Rattle.guppy_built.specs.Those.{AreThose}
use Rattle.guppy_built.proofs.rows.Rows.row_of.Goals as goal

pub returns : goal.returns
returns c members = record {
  record_is = c.args.«package».now;
  found = ap (λ (g : GraphData). slice_get g.packages c.args.build.now.position) c.args.self.same ∙ c.requires;
  id = refl;
  platform = c.platform_name.ensures ∙ ap (λ (platforms : PlatformSpec PlatformData). platform_name platforms c.args.build.now.place) (sym c.args.self.for_these);
  features = subst (λ (side : BuildPlatform). AreThose (IsFeatureOn c.args.self.set.now c.args.build.now.position side) (feature_names c.args.«package».now) (map (λ (name : Bor (List ℕ)). name.now) c.in_ok-features_on.field-0.items))
      c.side_at-side.ensures c.in_ok-features_on.ensures;
}
