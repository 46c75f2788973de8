use Rattle.std.proofs.Common.{◌∙◌, sym}
use Rattle.std.specs.Str.{bytes_eq}
use Rattle.guppy_data.proofs.ListedNames.{list_any-map}
use Rattle.guppy_command.proofs.asked.is_among.Goals as goal

pub returns : goal.returns
returns c = c.contains.ensures.value ∙ sym (list_any-map (λ name. bytes_eq name c.args.text.now) (λ name. name.now) c.args.names.now)
