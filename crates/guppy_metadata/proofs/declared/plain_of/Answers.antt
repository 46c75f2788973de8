use Rattle.std.proofs.Common.{refl, ap, map, codes}
use Rattle.std.specs.Option.{option_copied}
use Rattle.json.specs.Value.{value_view}
use Rattle.guppy_metadata.specs.declared.declared.TheConstants.{PLAIN}
use Rattle.guppy_metadata.proofs.AskedValues.{value_at, text_told, optional_text_told, truth_told}
use Rattle.guppy_metadata.proofs.SectionNames.{section_told}
use Rattle.guppy_metadata.proofs.Turns.{of_ok}
use Rattle.guppy_metadata.proofs.declared.plain_of.Goals as goal

pub returns : goal.returns
returns c = λ d are.
    let names = map (λ n. n.now) PLAIN in
    let values = c.args.values.now in
    let name = value_at d names values 0 (codes "name") c.index-values-0.result are refl c.index-values-0.is in
    let req = value_at d names values 2 (codes "req") c.index-values-2.result are refl c.index-values-2.is in
    let kind = value_at d names values 3 (codes "kind") c.index-values-3.result are refl c.index-values-3.is in
    let rename = value_at d names values 4 (codes "rename") c.index-values-4.result are refl c.index-values-4.is in
    let optional = value_at d names values 5 (codes "optional") c.index-values-5.result are refl c.index-values-5.is in
    let default_features = value_at d names values 6 (codes "uses_default_features") c.index-values-6.result are refl c.index-values-6.is in
    let target = value_at d names values 7 (codes "target") c.index-values-7.result are refl c.index-values-7.is in
    let registry = value_at d names values 8 (codes "registry") c.index-values-8.result are refl c.index-values-8.is in
    let path = value_at d names values 9 (codes "path") c.index-values-9.result are refl c.index-values-9.is in
    record {
      name = text_told d (codes "name") (value_view c.index-values-0.result) name c.in_ok-name.name.now c.in_ok-name.ensures;
      rename = optional_text_told d (codes "rename") (value_view c.index-values-4.result) rename (option_copied c.in_ok-rename.rename) c.in_ok-rename.ensures;
      requirement = (c.in_ok-text.text.now, text_told d (codes "req") (value_view c.index-values-2.result) req c.in_ok-text.text.now c.in_ok-text.ensures, of_ok _ _ c.requirement_of.result _ c.in_ok-requirement.ensures.value c.requirement_of.ensures);
      section = section_told d (option_copied c.in_ok-kind.kind) (optional_text_told d (codes "kind") (value_view c.index-values-3.result) kind (option_copied c.in_ok-kind.kind) c.in_ok-kind.ensures) c.in_ok-section.section c.in_ok-section.ensures;
      target = optional_text_told d (codes "target") (value_view c.index-values-7.result) target (option_copied c.in_ok-target.target) c.in_ok-target.ensures;
      optional = truth_told d (codes "optional") (value_view c.index-values-5.result) optional _ c.in_ok-optional.optional c.in_ok-optional.ensures;
      default_features = truth_told d (codes "uses_default_features") (value_view c.index-values-6.result) default_features _ c.in_ok-default_features.default_features c.in_ok-default_features.ensures;
      features = record { told = λ no_details. cc; left_out = λ _. ap (map (λ text. text.now)) c.new.ensures.items };
      registry = optional_text_told d (codes "registry") (value_view c.index-values-8.result) registry (option_copied c.in_ok-registry.registry) c.in_ok-registry.ensures;
      path = optional_text_told d (codes "path") (value_view c.index-values-9.result) path (option_copied c.in_ok-path.path) c.in_ok-path.ensures;
    }
