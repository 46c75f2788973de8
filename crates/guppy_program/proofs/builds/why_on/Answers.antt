use Rattle.std.proofs.Common.{◌∷◌, [], ◌++◌, refl, sym, subst}
use Rattle.std.specs.Prelude.{All}
use Rattle.std.specs.List.{AllZip}
use Rattle.std.proofs.lemmas.Result.{err_from_is_err_and}
use Rattle.guppy_graph.specs.Ids.{IsKnown}
use Rattle.guppy_command.specs.Command.{why_feature}
use Rattle.guppy_command.specs.Shown.{asked_shown, request_shown, texts}
use Rattle.guppy_program.specs.Answer.{IsWordFault}
use Rattle.guppy_program.specs.Meant.{Means}
use Rattle.guppy_program.specs.Builds.{places_of}
use Rattle.guppy_print.specs.Printed.{called}
use Rattle.guppy_program.proofs.Refusals.{all_clear, build_word, unclear_word, word_before}
use Rattle.guppy_program.proofs.builds.why_on.Goals as goal

pub returns-in_err-members-clause-err : goal.returns-in_err-members-clause-err
returns-in_err-members-clause-err g c =
    let passed_on = err_from_is_err_and c.from_residual.result c.from_residual.ensures.1 in
    let format = g.F.Format.format in
    let graph = c.args.graph.now in
    let call = called c.args.asked.now.options (format.text graph.packages) in
    let request = request_shown c.args.request.now in
    let fault = c.in_err-members.field-0.0 in
    let cause = g.F.Fault.ProgramFault.cause fault in
    rw (passed_on.1, passed_on.2) (build_word format (places_of (asked_shown c.args.asked.now)) call (why_feature request c.args.word.now c.args.name.now) graph fault cause
    (word_before format graph.packages request.members (c.args.word.now ∷ []) fault cause (subst (λ words. IsWordFault format graph.packages (texts words) fault cause) c.as_slice.ensures.value c.in_err-members.ensures.err)))

pub returns-in_err-id-clause-err : goal.returns-in_err-id-clause-err
returns-in_err-id-clause-err g c =
    let passed_on = err_from_is_err_and c.from_residual-in_err-id.result c.from_residual-in_err-id.ensures.1 in
    let format = g.F.Format.format in
    let graph = c.args.graph.now in
    let call = called c.args.asked.now.options (format.text graph.packages) in
    let request = request_shown c.args.request.now in
    let word = c.args.word.now in
    let meant = format.meant graph.packages in
    let fault = c.in_err-id.field-0.0 in
    let cause = g.F.Fault.ProgramFault.cause fault in
    let named = subst (λ words. AllZip (Means meant) (texts words) c.in_ok-members.members.items) c.as_slice.ensures.value c.in_ok-members.ensures.named in
    rw (passed_on.1, passed_on.2) (build_word format (places_of (asked_shown c.args.asked.now)) call (why_feature request c.args.word.now c.args.name.now) graph fault cause
    (unclear_word format graph.packages (request.members ++ word ∷ []) request.members [] word refl (all_clear meant request.members c.in_ok-members.members.items named) fault cause c.in_err-id.ensures.unclear))

pub why_of-requires-clause-known : goal.why_of-requires-clause-known
why_of-requires-clause-known g c = subst (All (IsKnown c.args.graph.now.packages)) (sym c.as_slice-2.ensures.value) c.in_ok-members.ensures.known
