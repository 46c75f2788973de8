use Rattle.std.proofs.Common.{◌∷◌, [], refl, map, codes}
use Rattle.json.specs.Value.{value_view}
use Rattle.guppy_metadata.specs.declared.declared.TheConstants.{PLAIN, DETAILED}
use Rattle.guppy_metadata.proofs.AskedValues.{value_at, first_values, texts_told}
use Rattle.guppy_metadata.proofs.declared.detailed_of.Goals as goal

pub returns : goal.returns
returns c = λ d are.
    let values = c.args.values.now in
    let plain = c.in_ok-declared.ensures d (first_values d (map (λ n. n.now) PLAIN) (codes "features" ∷ []) values are) in
    let features = value_at d (map (λ n. n.now) DETAILED) values 10 (codes "features") c.index-values-10.result are refl c.index-values-10.is in
    let texts = texts_told d (codes "features") (value_view c.index-values-10.result) features (map (λ text. text.now) c.in_ok-declared-2.field-0.items) c.in_ok-declared-2.ensures in
    record {
      name = plain.name;
      rename = plain.rename;
      requirement = plain.requirement;
      section = plain.section;
      target = plain.target;
      optional = plain.optional;
      default_features = plain.default_features;
      features = record { told = λ _. texts; left_out = λ no_details. cc };
      registry = plain.registry;
      path = plain.path;
    }
