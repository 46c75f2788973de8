use Rattle.std.proofs.Common.{◌≡◌, ◌∙◌, rules, refl, sym, ap, Some, String, Global, Option, List, ℕ}
use Rattle.std.specs.Prelude.{option_map, slice_get}
use Rattle.std.specs.String.{string_bytes}
use Rattle.guppy_graph.specs.Graph.{GraphData}
use Rattle.guppy_built.proofs.resolved.all_resolved.Goals as goal

pub returns-clause-err : goal.returns-clause-err
returns-clause-err c =
    let first = rw c.in-Some.is at c.in_ok-first.ensures in
    let record_is = c.package_at-package.result.now in
    let called : slice_get record_is.optional_deps.keys c.in-Some.first.place ≡ Some c.in-Some-get_index.name.now = search rules in
    record {
      position = c.in-Some.first.position;
      place = c.in-Some.first.place;
      first = first;
      record_is = record_is;
      found = ap (λ (g : GraphData). slice_get g.packages c.in-Some.first.position) c.requires ∙ c.package_at-package.ensures;
      id_is = refl;
      name_is = ap (λ (o : Option (String Global)). option_map (λ name. string_bytes name) o) called ∙ ap (λ (text : List ℕ). Some text) (sym c.as_str.ensures.value);
    }
