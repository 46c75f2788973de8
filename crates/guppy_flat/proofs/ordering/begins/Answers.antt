use Rattle.std.proofs.Common.{◌≡◌, ◌∙◌, ◌-◌, ◌<◌, length, map, Some, sym, ap, arith}
use Rattle.std.specs.Prelude.{slice_get, option_map}
use Rattle.std.proofs.lemmas.Option.{slice_get-map, slice_get-get_or}
use Rattle.guppy_core.specs.Sccs.{InOneBlock}
use Rattle.guppy_flat.proofs.Places.{not_false, with_previous}
use Rattle.guppy_flat.proofs.ordering.begins.Goals as goal

pub returns-else-place-eq0 : goal.returns-else-place-eq0
returns-else-place-eq0 g c =
    let f = g.Ix.IndexType.index_of in
    let xs = c.args.positions.now in
    let place = c.args.place in
    let first = c.index-positions-place in
    let second = c.index-positions-place-else-place-eq0 in
    let later = c.if-place-eq0.false in
    let within : place < length xs = c.requires.place in
    let within_too : place - 1 < length xs = omega arith in
    let first_at : slice_get (map f xs) (place - 1) ≡ Some (f first.result) = slice_get-map f xs (place - 1) ∙ ap (option_map f) (slice_get-get_or xs (place - 1) first.result within_too ∙ ap Some (sym first.is)) in
    let second_at : slice_get (map f xs) place ≡ Some (f second.result) = slice_get-map f xs place ∙ ap (option_map f) (slice_get-get_or xs place second.result within ∙ ap Some (sym second.is)) in
    let one = with_previous (InOneBlock c.args.sccs.now) (map f xs) place (f first.result) (f second.result) (omega arith) first_at second_at in
    let same = c.is_same_scc.ensures in
    let told = not_false c.is_same_scc.result in
    (λ h. one.1 (same.0 (told.0 h)), λ h. told.1 (same.1 (one.0 h)))
