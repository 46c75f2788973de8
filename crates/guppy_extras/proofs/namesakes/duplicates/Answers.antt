use Rattle.std.proofs.Common.{◌≡◌, ◌∙◌, [], length, map, refl, sym, ap}
use Rattle.std.proofs.lemmas.List.{map_push}
use Rattle.std.proofs.lemmas.Option.{slice_get_read}
use Rattle.guppy_extras.specs.Sorted.{AreSorted}
use Rattle.guppy_extras.proofs.DuplicateRows.{told_at, rows_more, rows_all}
use Rattle.guppy_extras.proofs.KeptPositions.{kept_none, kept_skip}
use Rattle.guppy_extras.proofs.NamedAlike.{position_at}
use Rattle.guppy_extras.proofs.namesakes.duplicates.Goals.{then-has_namesake+in_ok-row_of+in_ok-push, else-has_namesake}
use Rattle.guppy_extras.proofs.namesakes.duplicates.Goals as goal

pub loop-place-init : goal.loop-place-init
loop-place-init c = record {
  order = [];
  kept = kept_none _ _;
  rows_are = ap (map (λ row. map (λ id. id.now) row.items)) c.new-rows.ensures.items;
}

pub has_namesake-requires-clause-sorted : goal.has_namesake-requires-clause-sorted
has_namesake-requires-clause-sorted c = (c.args.graph, rw c.deref.ensures.value c.in_ok-packages.ensures)

pub loop-place-preserved : goal.loop-place-preserved
loop-place-preserved c =
    let g = c.args.graph in
    let ms = c.deref-package-items.result.now in
    let place = c.loop-place.place in
    let here = c.package-item.result in
    let sorted : AreSorted g ms = rw c.deref-package-items.ensures.value c.in_ok-packages.ensures in
    let at = slice_get_read ms (length ms) place here refl c.loop-place-test.true c.package-item.is in
    let same : c.deref.result.now ≡ ms = c.deref.ensures.value ∙ sym c.deref-package-items.ensures.value in
    let told = told_at g ms sorted place here at c.has_namesake.result (rw same at c.has_namesake.ensures) in
    let was = c.loop-place.invariant in
    elim c.if-has_namesake.branch [
      | then-has_namesake+in_ok-row_of+in_ok-push w ↦
          rw (w.rows-is, w.in_ok-push.ensures.items, map_push)
          (rows_more g ms sorted place here at (told.0 w.if-has_namesake.true) _ _ was w.in_ok-row_of.ensures)
      | else-has_namesake w ↦
          rw w.rows-is (record {
            order = was.order;
            kept = kept_skip _ _ place was.order was.kept _ (position_at g ms sorted place here at) (λ named. let yes = told.1 named in let no = w.if-has_namesake.false in absurd (cc (yes, no)));
            rows_are = was.rows_are;
          })
    ]

pub returns-clause-rows : goal.returns-clause-rows
returns-clause-rows c = rows_all c.args.graph _ (rw c.deref-package-items.ensures.value c.in_ok-packages.ensures) c.loop-place.place _ c.loop-place-test.false c.loop-place.invariant
