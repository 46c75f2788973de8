use Rattle.std.proofs.Common.{◌≡◌, true, false, get_or, ap, sym, ◌∙◌}
use Rattle.std.specs.List.{list_any}
use Rattle.std.specs.Option.{option_map_or}
use Rattle.std.specs.Str.{bytes_eq}
use Rattle.std.specs.String.{string_bytes}
use Rattle.std.specs.Prelude.{Option}
use Rattle.guppy_search.specs.declared.graph_core.link.Link.{Link}
use Rattle.guppy_search.specs.declared.ix.direction.DependencyDirection.TheVariants.{Forward}
use Rattle.guppy_search.specs.Links.{links_at}
use Rattle.guppy_data.specs.declared.records.LinkRecord.{LinkRecord}
use Rattle.guppy_features.proofs.ChosenLists.{any_found, none_found, has_name, has_name_at, named_by_number}
use Rattle.guppy_features.proofs.chosen.has_link.Goals as goal

pub returns-then-eq : goal.returns-then-eq
returns-then-eq c =
    let g = c.args.graph.now in
    let name = c.args.name.now in
    let numbers = c.links_of-number-items.result.now in
    let i = c.loop-number.number-index in
    let are : numbers ≡ links_at Forward g.links c.args.position = cc in
    let equal : bytes_eq (string_bytes c.link_at.result.edge.now.dep_name) name ≡ true = sym (rw c.as_str.ensures.value at c.if-eq.ensures) in
    let named : has_name_at g.links name (get_or numbers i 0) ≡ true = ap (λ (o : Option (Link LinkRecord)). option_map_or (has_name name) o false) c.link_at.ensures.at ∙ equal in
    sym (sym (named_by_number g c.args.position name) ∙ ap (list_any (has_name_at g.links name)) (sym are) ∙ any_found (has_name_at g.links name) numbers i c.loop-number-test.true named)

pub returns : goal.returns
returns c =
    let g = c.args.graph.now in
    let name = c.args.name.now in
    let numbers = c.links_of-number-items.result.now in
    let are : numbers ≡ links_at Forward g.links c.args.position = cc in
    sym (sym (named_by_number g c.args.position name) ∙ ap (list_any (has_name_at g.links name)) (sym are) ∙ none_found (has_name_at g.links name) numbers c.loop-number.number-index c.loop-number-test.false c.loop-number.invariant)
