use Rattle.std.proofs.Common.{◌≡◌, [], ◌∷◌, ◌++◌, length, sym, ◌∙◌, ap, arith}
use Rattle.std.specs.Prelude.{map}
use Rattle.guppy_core.specs.Sccs.{parts}
use Rattle.guppy_core.proofs.Parts.{parts-last, parts_less, no_parts, no_parts-end, range-map, bounds_last, bounds_front}
use Rattle.guppy_core.proofs.scc.iter.AllSccsDoubleEndedIterator.next_back.Goals as goal

pub returns-clause-steps : goal.returns-clause-steps
returns-clause-steps g c =
    let f = g.Ix.IndexType.index_of in
    let xs = c.self.inside.positions.now in
    let start = c.in_ok-start.field-0.now in
    let end = c.in_ok-end.end.now in
    let item = c.in_ok-start.ensures.item in
    sym c.self.view_is ∙ (parts-last (map f xs) c.self.inside.bounds.now start end c.in_ok-end.rest.now c.in_ok-end.ensures.cases.0 item.3.0 item.1 ∙ ap (λ z. parts c.in_ok-end.rest.now (map f xs) ++ z ∷ []) (range-map f xs start end))

pub returns-clause-goes : goal.returns-clause-goes
returns-clause-goes g c =
    let count = c.in_ok-end.ensures.cases.1 in
    let less = parts_less (map g.Ix.IndexType.index_of c.self.inside.positions.now) c.self.inside.bounds.now c.in_ok-end.rest.now _ c.self.view_is c.in_ok-start.ensures.item.3.0 (omega arith) in
    record { on = λ finite. (tt, tt, less); keeps = tt; rests = λ finite. tt }

pub returns-in_err-start-clause-steps : goal.returns-in_err-start-clause-steps
returns-in_err-start-clause-steps g c =
    let none : c.args.self.now ≡ [] = sym c.self.view_is ∙ no_parts-end (map g.Ix.IndexType.index_of c.self.inside.positions.now) _ _ _ c.in_ok-end.ensures.cases.0 c.in_err-start.ensures.value in
    rw c.from_residual-in_err-start.ensures (none, none)

pub returns-in_err-end-clause-steps : goal.returns-in_err-end-clause-steps
returns-in_err-end-clause-steps g c =
    let none : c.args.self.now ≡ [] = sym c.self.view_is ∙ no_parts (map g.Ix.IndexType.index_of c.self.inside.positions.now) c.self.inside.bounds.now (let e = c.in_err-end.ensures.cases in omega arith) in
    rw c.from_residual.ensures (none, none)

pub slice_bounds-result-count : goal.slice_bounds-result-count
slice_bounds-result-count g c =
    let item = c.in_ok-start.ensures.item in
    (bounds_last _ _ _ _ _ c.in_ok-end.ensures.cases.0 item.3.0 item.1 c.self.invariant).0

pub slice_bounds-result-end : goal.slice_bounds-result-end
slice_bounds-result-end g c =
    let item = c.in_ok-start.ensures.item in
    (bounds_last _ _ _ _ _ c.in_ok-end.ensures.cases.0 item.3.0 item.1 c.self.invariant).1

pub invariant_of-self : goal.invariant_of-self
invariant_of-self g c = bounds_front c.in_ok-end.end.now c.self.inside.bounds.now c.in_ok-end.rest.now (length c.self.inside.positions.now) c.in_ok-end.ensures.cases.0 c.self.invariant

pub returns-in_err-start-clause-goes : goal.returns-in_err-start-clause-goes
returns-in_err-start-clause-goes g c = rw c.from_residual-in_err-start.ensures (record { on = λ finite. tt; keeps = tt; rests = λ finite. tt })

pub returns-in_err-end-clause-goes : goal.returns-in_err-end-clause-goes
returns-in_err-end-clause-goes g c = rw c.from_residual.ensures (record { on = λ finite. tt; keeps = tt; rests = λ finite. tt })
