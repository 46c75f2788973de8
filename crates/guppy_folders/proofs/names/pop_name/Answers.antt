use Rattle.std.proofs.Common.{◌∙◌, ap, map, sym, subst}
use Rattle.std.proofs.lemmas.List.{map_push}
use Rattle.guppy_data.specs.Component.{part_shown}
use Rattle.guppy_folders.specs.Folders.{IsName}
use Rattle.guppy_folders.proofs.LastNames.{same_last}
use Rattle.guppy_folders.proofs.names.pop_name.Goals as goal

pub returns-in-Some-clause-name : goal.returns-in-Some-clause-name
returns-in-Some-clause-name c = λ h.
    (part_shown c.in-Some.part, c.is_name.ensures.0 h, ap (map part_shown) c.in-Some.ensures.items ∙ map_push part_shown c.pop.new.self.items c.in-Some.part)

pub returns-in-Some-clause-no_name : goal.returns-in-Some-clause-no_name
returns-in-Some-clause-no_name c = λ other front last is name.
    let items = ap (map part_shown) c.in-Some.ensures.items ∙ map_push part_shown c.pop.new.self.items c.in-Some.part in
    let same = same_last front (map part_shown c.pop.new.self.items) last (part_shown c.in-Some.part) (sym is ∙ items) in
    other (c.is_name.ensures.1 (subst IsName same name))
