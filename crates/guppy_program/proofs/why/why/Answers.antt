use Rattle.std.proofs.Common.{◌∷◌, [], ⊎_elim, refl, sym, subst}
use Rattle.std.proofs.lemmas.Result.{err_from_is_err_and}
use Rattle.guppy_command.specs.Command.{why}
use Rattle.guppy_program.specs.Answer.{IsCommandFault}
use Rattle.guppy_program.proofs.Refusals.{command_word, none_clear, one_clear, told_memory, unclear_word}
use Rattle.guppy_program.proofs.why.why.Goals as goal

pub returns-in_err-end-clause-err : goal.returns-in_err-end-clause-err
returns-in_err-end-clause-err g c call =
    let passed_on = err_from_is_err_and c.from_residual-in_err-end.result c.from_residual-in_err-end.ensures.1 in
    let format = g.F.Format.format in
    let packages = c.args.graph.now.packages in
    let from = c.args.from.now in
    let to = c.args.to.now in
    rw (passed_on.1, passed_on.2) (command_word format call (why from to) c.args.graph.now _ _ (unclear_word format packages (from ∷ to ∷ []) (from ∷ []) [] to refl
    (one_clear (format.meant packages) from (c.in_ok-start.start, c.in_ok-start.ensures.found)) _ _ c.in_err-end.ensures.unclear))

pub returns-in_err-start-clause-err : goal.returns-in_err-start-clause-err
returns-in_err-start-clause-err g c call =
    let passed_on = err_from_is_err_and c.from_residual.result c.from_residual.ensures.1 in
    let format = g.F.Format.format in
    let packages = c.args.graph.now.packages in
    let from = c.args.from.now in
    let to = c.args.to.now in
    rw (passed_on.1, passed_on.2) (command_word format call (why from to) c.args.graph.now _ _ (unclear_word format packages (from ∷ to ∷ []) [] (to ∷ []) from refl
    (none_clear (format.meant packages)) _ _ c.in_err-start.ensures.unclear))

pub returns-in_err-steps-clause-err : goal.returns-in_err-steps-clause-err
returns-in_err-steps-clause-err g c call =
    let passed_on = err_from_is_err_and c.from_residual-in_err-steps.result c.from_residual-in_err-steps.ensures.1 in
    rw (passed_on.1, passed_on.2) (told_memory c.shortest_steps.result _
    (IsCommandFault g.F.Format.format call (why c.args.from.now c.args.to.now) c.args.graph.now _)
    c.shortest_steps.ensures.err c.in_err-steps.ensures.err tt)

pub returns-clause-err : goal.returns-clause-err
returns-clause-err g c call =
    let P = IsCommandFault g.F.Format.format call (why c.args.from.now c.args.to.now) c.args.graph.now c.no_walk.result in
    let apart = rw c.in-None.is at (rw c.in_ok-steps.ensures.ok at c.shortest_steps.ensures.none) in
    ⊎_elim
    (λ told. subst P (sym told) (
      refl,
      refl,
      record {
        from_id = c.in_ok-start.start;
        to_id = c.in_ok-end.end;
        from_named = c.in_ok-start.ensures.found;
        to_named = c.in_ok-end.ensures.found;
        apart = apart;
      },
    ))
    (λ told. subst P (sym told) tt) c.no_walk.ensures
