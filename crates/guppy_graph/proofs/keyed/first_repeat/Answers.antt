use Rattle.std.proofs.Common.{◌≡◌, ◌∙◌, sym, ◌<◌, arith, true, false, ap, ltb}
use Rattle.std.specs.Bool.{then_some}
use Rattle.guppy_graph.proofs.Neighbours.{scanned_none, scanned_same, scanned_other, scanned_all}
use Rattle.guppy_graph.proofs.keyed.first_repeat.Goals.{then-is_repeat, else-is_repeat}
use Rattle.guppy_graph.proofs.keyed.first_repeat.Goals as goal

pub loop-place-init : goal.loop-place-init
loop-place-init g c =
    rw c.position_count-lowest.ensures (scanned_none g.S.Keyed.order g.S.Keyed.total (g.S.Keyed.key_at c.args.source.now) (g.S.Keyed.count c.args.source.now) c.args.index.now)

pub loop-place-preserved : goal.loop-place-preserved
loop-place-preserved g c =
    let order = g.S.Keyed.order in
    let o = g.S.Keyed.total in
    let key_at = g.S.Keyed.key_at c.args.source.now in
    let n = g.S.Keyed.count c.args.source.now in
    let index = c.args.index.now in
    let place = c.loop-place.place in
    let after : 0 < place = let late = c.loop-place.auto.place in omega arith in
    elim c.if-is_repeat.branch [
      | then-is_repeat w ↦ rw (w.lowest-is, w.min-lowest.ensures) (scanned_same order o key_at n index place c.loop-place.lowest c.loop-place.invariant c.requires after c.loop-place-test.true (c.is_repeat.ensures.0 w.if-is_repeat.true))
      | else-is_repeat w ↦ rw w.lowest-is (scanned_other order o key_at n index place c.loop-place.lowest c.loop-place.invariant
          (λ tie. absurd (let e : true ≡ false = sym (c.is_repeat.ensures.1 tie) ∙ w.if-is_repeat.false in cc)))
    ]

pub returns : goal.returns
returns g c =
    scanned_all g.S.Keyed.order g.S.Keyed.total (g.S.Keyed.key_at c.args.source.now) (g.S.Keyed.count c.args.source.now) c.args.index.now c.loop-place.place c.loop-place.lowest c.loop-place.invariant c.requires c.loop-place-test.false c.then_some.result
    (c.then_some.ensures ∙ ap (λ count. then_some (ltb c.loop-place.lowest count) c.loop-place.lowest) c.position_count.ensures)
