use Rattle.std.proofs.Common.{[], ◌∷◌}
use Rattle.std.proofs.lemmas.Result.{err_from_is_err_and}
use Rattle.guppy_graph.specs.Refused.{named_id}
use Rattle.guppy_graph.proofs.UnknownTexts.{NamesText-along, first_unknown-cons, first_unknown-behind}
use Rattle.guppy_graph.proofs.graph.RecordGraph.pair_of.Goals as goal

pub returns-in_err-from-clause-unknown : goal.returns-in_err-from-clause-unknown
returns-in_err-from-clause-unknown c =
    let p = err_from_is_err_and c.from_residual.result c.from_residual.ensures.1 in
    rw (p.1, p.2) (NamesText-along named_id _ _ _ (λ id first. first_unknown-behind _ (c.args.a.now ∷ []) (c.args.b.now ∷ []) id first) c.in_err-from.ensures.unknown)

pub returns-in_err-to-clause-unknown : goal.returns-in_err-to-clause-unknown
returns-in_err-to-clause-unknown c =
    let p = err_from_is_err_and c.from_residual-in_err-to.result c.from_residual-in_err-to.ensures.1 in
    rw (p.1, p.2) (NamesText-along named_id _ _ _ (λ id first. first_unknown-cons _ c.args.a.now (c.args.b.now ∷ []) id (c.in_ok-from.from.0, c.in_ok-from.ensures.found) first) c.in_err-to.ensures.unknown)
