use Rattle.std.proofs.Common.{◌∷◌, []}
use Rattle.std.proofs.lemmas.Result.{err_from_is_err_and}
use Rattle.guppy_graph.specs.Ids.{IsKnown}
use Rattle.guppy_program.proofs.ReachedIds.{two_hold}
use Rattle.guppy_dot.proofs.GivenIds.{none_unknown}
use Rattle.guppy_program.proofs.answer.dependence.Goals as goal

pub returns-in_err-depends_on-clause-err : goal.returns-in_err-depends_on-clause-err
returns-in_err-depends_on-clause-err c =
    let passed_on = err_from_is_err_and c.from_residual.result c.from_residual.ensures.1 in
    rw (passed_on.1, passed_on.2) (none_unknown c.args.graph.now.packages (c.args.from.now ∷ c.args.to.now ∷ []) (two_hold (IsKnown c.args.graph.now.packages) _ _ c.requires.from_known c.requires.to_known) _ c.in_err-depends_on.ensures.unknown)
