use Rattle.std.proofs.Common.{◌∙◌, ap, string_bytes}
use Rattle.indexmap.specs.IndexMap.{get_by_text}
use Rattle.std.specs.Option.{option_map_or}
use Rattle.guppy_arguments.proofs.names.Names.text_of.Goals as goal

pub returns-in-Some : goal.returns-in-Some
returns-in-Some c packages are =
    let id = c.args.id.now in
    c.as_str.ensures.value ∙ (ap (λ o. option_map_or string_bytes o id) c.in-Some.ensures.value
    ∙ (ap (λ bs. option_map_or string_bytes (get_by_text c.args.self.now.texts bs) id) c.repr.ensures ∙ are.texts_are id))
