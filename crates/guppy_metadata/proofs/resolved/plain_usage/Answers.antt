use Rattle.std.proofs.Common.{refl, map, codes}
use Rattle.std.specs.Option.{option_copied}
use Rattle.json.specs.Value.{value_view}
use Rattle.guppy_metadata.specs.declared.resolved.TheConstants.{ASKED}
use Rattle.guppy_metadata.proofs.AskedValues.{value_at, optional_text_told}
use Rattle.guppy_metadata.proofs.SectionNames.{section_told}
use Rattle.guppy_metadata.proofs.resolved.plain_usage.Goals as goal

pub returns : goal.returns
returns c = λ d is_object are.
    let names = map (λ n. n.now) ASKED in
    let values = c.args.values.now in
    let kind = value_at d names values 0 (codes "kind") c.index-values-0.result are refl c.index-values-0.is in
    let target = value_at d names values 1 (codes "target") c.index-values-1.result are refl c.index-values-1.is in
    record {
      is_object = is_object;
      section = section_told d (option_copied c.in_ok-kind.kind) (optional_text_told d (codes "kind") (value_view c.index-values-0.result) kind (option_copied c.in_ok-kind.kind) c.in_ok-kind.ensures) c.in_ok-section.section c.in_ok-section.ensures;
      target = optional_text_told d (codes "target") (value_view c.index-values-1.result) target (option_copied c.in_ok-target.target) c.in_ok-target.ensures;
    }
