use Rattle.std.proofs.Common.{List, map, subst}
use Rattle.guppy_built.specs.declared.rows.BuiltPackage.{BuiltPackage}
use Rattle.guppy_built.specs.Rows.{row_of}
use Rattle.guppy_changes.specs.contracts.mark.MarkOfPartialEq.TheImpl.{eq-value as mark_of_eq}
use Rattle.guppy_changes.specs.declared.mark.MarkOf.{MarkOf}
use Rattle.guppy_changes.specs.Adding.{Adds, OfSome}
use Rattle.guppy_changes.specs.Changes.{edges}
use Rattle.guppy_changes.specs.Shown.{LinkMarks, RowMarks, all_shown, shown}
use Rattle.guppy_changes.proofs.Steps.{adds_then, adds_to_nothing}
use Rattle.guppy_changes.proofs.Same.{equal_shown, shown_equal}
use Rattle.guppy_changes.proofs.Sets.{set_made}
use Rattle.guppy_changes.proofs.Relation.{marks_given}
use Rattle.guppy_changes.proofs.marks.marks_of.Goals as goal

pub returns : goal.returns
returns c =
    let rows = map row_of c.in_ok-rows.rows.items in
    let links = edges c.args.graph.now.links in
    let between = all_shown c.add_links.new.marks.items in
    let marks = c.add_rows.new.marks.items in
    let first = subst (λ (none : List MarkOf). Adds (OfSome links LinkMarks) (all_shown none) between) c.new-marks.ensures.items c.in_ok-add_links.ensures in
    let second = subst (λ (xs : List BuiltPackage). Adds (OfSome (map row_of xs) RowMarks) between (all_shown marks)) c.as_slice.ensures.value c.in_ok-add_rows.ensures in
    let all = adds_to_nothing (adds_then first second) in
    let made = set_made mark_of_eq.it shown equal_shown shown_equal marks c.new.result c.new.ensures.kept in (
      rows,
      c.in_ok-rows.ensures,
      λ id mark.
          let given = marks_given links rows id mark in
          (λ h. given.0 ((all (id, mark)).0 ((made (id, mark)).0 h)), λ h. (made (id, mark)).1 ((all (id, mark)).1 (given.1 h))),
    )
