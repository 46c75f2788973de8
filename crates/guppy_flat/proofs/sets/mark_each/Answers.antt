use Rattle.std.proofs.Common.{◌<◌, ◌+◌, ◌∙◌, true, length, map, sym, ap, subst, arith}
use Rattle.std.specs.Prelude.{slice_set}
use Rattle.std.proofs.lemmas.List.{get_or-map, length-map}
use Rattle.std.proofs.lemmas.List.Elements.{All-map}
use Rattle.guppy_core.proofs.Listings.{IsSetOf, set_more, set_all}
use Rattle.guppy_flat.proofs.sets.mark_each.Goals as goal

pub loop-position-preserved : goal.loop-position-preserved
loop-position-preserved g c =
    let f = g.Ix.IndexType.index_of in
    let xs = c.args.positions.now in
    let limit = length c.args.marks.now in
    let i = c.loop-position.position-index in
    let marks = c.loop-position.marks in
    let within : i < length xs = c.loop-position-test.true in
    let size = length-map xs f in
    let same = get_or-map f xs i c.position-item.result 0 within ∙ ap f (sym c.position-item.is) ∙ sym c.index.ensures.position in
    subst (λ x. IsSetOf (map f xs) limit (i + 1) (slice_set marks x true)) same
    (set_more (map f xs) limit i marks c.loop-position.invariant (omega arith) (All-map (λ p. p < limit) f xs c.requires))

pub returns : goal.returns
returns g c =
    let size = length-map c.args.positions.now g.Ix.IndexType.index_of in
    let ends = c.loop-position-test.false in
    set_all _ _ _ _ c.loop-position.invariant (omega arith)
