use Rattle.std.proofs.Common.{◌∙◌, ap}
use Rattle.json.specs.Value.{value_view, members_view}
use Rattle.json.proofs.Trees.{view-Object}
use Rattle.guppy_metadata.proofs.Refused.{refused}
use Rattle.guppy_metadata.proofs.resolved.usage_of.Goals as goal

pub returns-in_err-section_of : goal.returns-in_err-section_of
returns-in_err-section_of c = refused _ _ _ c.from_residual.ensures (λ x holds. (x.section, holds.section)) c.in_err-section_of.ensures

pub returns : goal.returns
returns c = record {
  is_object = (members_view c.in-Object.field-0.items, ap value_view c.in-Object.is ∙ view-Object c.in-Object.field-0);
  section = c.in_ok-section_of.ensures;
  target = c.in_ok-optional_text.ensures;
}
