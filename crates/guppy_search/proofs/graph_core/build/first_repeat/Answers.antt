use Rattle.std.proofs.Common.{◌≡◌, ◌∙◌, length, replicate, ap, arith, rules}
use Rattle.std.proofs.Math.ListN.{length-replicate}
use Rattle.std.proofs.lemmas.List.{with_items_is}
use Rattle.guppy_search.specs.declared.ix.direction.DependencyDirection.TheVariants.{Forward}
use Rattle.guppy_search.specs.Links.{links_at}
use Rattle.guppy_search.specs.Stored.{far_ends_at}
use Rattle.guppy_search.proofs.Exits.{if_ok}
use Rattle.guppy_search.proofs.Ends.{beside_len, far_below}
use Rattle.guppy_search.proofs.Repeats.{scanned_none, scanned_apart, scanned_again, scanned_all}
use Rattle.guppy_search.proofs.graph_core.build.first_repeat.Goals.{in-Some, in_default}
use Rattle.guppy_search.proofs.graph_core.build.first_repeat.Goals as goal

pub first_again-requires-clause-beside : goal.first_again-requires-clause-beside
first_again-requires-clause-beside g c =
    let row : c.at-row.result.now ≡ links_at Forward c.args.links.now c.loop-position.position = c.at-row.ensures ∙ c.requires.lists.list_is c.loop-position.position c.loop-position-test.true in
    let far : c.far_at-far_ends.result.now ≡ far_ends_at Forward c.args.links.now c.loop-position.position = c.far_at-far_ends.ensures ∙ c.requires.lists.far_is c.loop-position.position c.loop-position-test.true in
    rw (row, far) (beside_len c.args.links.now Forward c.loop-position.position)

pub loop-position-preserved : goal.loop-position-preserved
loop-position-preserved g c =
    let row : c.at-row.result.now ≡ links_at Forward c.args.links.now c.loop-position.position = c.at-row.ensures ∙ c.requires.lists.list_is c.loop-position.position c.loop-position-test.true in
    let far : c.far_at-far_ends.result.now ≡ far_ends_at Forward c.args.links.now c.loop-position.position = c.far_at-far_ends.ensures ∙ c.requires.lists.far_is c.loop-position.position c.loop-position-test.true in
    let marks = c.loop-position.marks in
    let ok = marks.ok in
    let lent = c.as_mut_slice.ensures.len in
    let kept = c.first_again.ensures.len in
    let was = c.loop-position.invariant.len in
    let len : length c.first_again.new.marks ≡ marks.len = omega arith in
    let count : length c.first_again.new.marks ≡ c.args.count = omega arith in
    rw (with_items_is marks c.first_again.new.marks len) (record {
      len = count;
      scanned = elim c.match-first_again.branch [
        | in-Some w ↦
            let again = rw (row, far) at w.in-Some.ensures.again in
            rw (w.lowest-is, w.min-lowest.ensures) (scanned_again c.args.links.now c.loop-position.position c.loop-position.lowest marks.items c.first_again.new.marks c.loop-position.invariant.scanned c.first_again.ensures.used _ again)
        | in_default w ↦
            let apart = rw (row, far) at w.in_default.ensures.again in
            rw w.lowest-is (scanned_apart c.args.links.now c.loop-position.position c.loop-position.lowest marks.items c.first_again.new.marks c.loop-position.invariant.scanned c.first_again.ensures.used apart)
      ];
    })

pub returns : goal.returns
returns g c = scanned_all c.args.links.now c.args.count c.loop-position.position c.loop-position.lowest c.loop-position.marks.items c.requires.ends c.loop-position.invariant.scanned c.loop-position-test.false c.then_some.result c.then_some.ensures

pub returns-in_err-marks : goal.returns-in_err-marks
returns-in_err-marks g c = if_ok _ _ c.from_residual.ensures.0

pub loop-position-init : goal.loop-position-init
loop-position-init g c =
    let items : c.in_ok-marks.marks.items ≡ replicate c.args.count 0 = search rules in
    rw items (record { len = length-replicate _ 0; scanned = scanned_none c.args.links.now c.args.count })

pub first_again-requires-clause-ends : goal.first_again-requires-clause-ends
first_again-requires-clause-ends g c =
    let count : length c.as_mut_slice.result.now ≡ c.args.count = ap length c.as_mut_slice.ensures.value ∙ c.loop-position.invariant.len in
    let far : c.far_at-far_ends.result.now ≡ far_ends_at Forward c.args.links.now c.loop-position.position = c.far_at-far_ends.ensures ∙ c.requires.lists.far_is c.loop-position.position c.loop-position-test.true in
    rw (count, far) (far_below c.args.links.now Forward c.args.count c.loop-position.position c.requires.ends)

pub first_again-requires-clause-unused : goal.first_again-requires-clause-unused
first_again-requires-clause-unused g c = rw c.as_mut_slice.ensures.value c.loop-position.invariant.scanned.used
