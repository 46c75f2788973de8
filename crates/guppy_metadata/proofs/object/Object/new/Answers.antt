use Rattle.std.proofs.Common.{◌∙◌, ap}
use Rattle.json.specs.Value.{value_view, members_view}
use Rattle.json.proofs.Trees.{view-Object}
use Rattle.guppy_metadata.proofs.object.Object.new.Goals as goal

pub returns-in-Object-clause-object : goal.returns-in-Object-clause-object
returns-in-Object-clause-object c = (members_view c.in-Object.field-0.items, ap value_view c.in-Object.is ∙ view-Object c.in-Object.field-0)
