use Rattle.std.proofs.Common.{◌∷◌, [], refl}
use Rattle.std.proofs.lemmas.Result.{err_from_is_err_and}
use Rattle.guppy_program.proofs.Refusals.{one_clear, unclear_word}
use Rattle.guppy_program.proofs.answer.depends.Goals as goal

pub returns-in_err-to-clause-err : goal.returns-in_err-to-clause-err
returns-in_err-to-clause-err g c =
    let passed_on = err_from_is_err_and c.from_residual-in_err-to.result c.from_residual-in_err-to.ensures.1 in
    let packages = c.args.graph.now.packages in
    rw (passed_on.1, passed_on.2) (unclear_word g.F.Format.format packages (c.args.from.now ∷ c.args.to.now ∷ []) (c.args.from.now ∷ []) [] c.args.to.now refl
    (one_clear (g.F.Format.format.meant packages) c.args.from.now (c.in_ok-from.from, c.in_ok-from.ensures.found)) _ _ c.in_err-to.ensures.unclear)
