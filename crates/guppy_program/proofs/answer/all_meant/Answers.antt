use Rattle.std.proofs.Common.{refl, ℕ, List, Bor, take, drop, ◌+◌}
use Rattle.std.proofs.lemmas.List.Elements.{All-push}
use Rattle.std.proofs.lemmas.Result.{err_from_is_err_and}
use Rattle.guppy_graph.specs.Ids.{IsKnown}
use Rattle.guppy_command.specs.Shown.{texts}
use Rattle.guppy_program.specs.Meant.{Means}
use Rattle.guppy_program.proofs.Refusals.{all_clear, unclear_word}
use Rattle.guppy_command.proofs.FirstItems.{cut_at, fits_with}
use Rattle.guppy_program.proofs.answer.all_meant.Goals as goal

pub returns-in_err-id-clause-err : goal.returns-in_err-id-clause-err
returns-in_err-id-clause-err g c =
    let passed_on = err_from_is_err_and c.from_residual.result c.from_residual.ensures.1 in
    let packages = c.args.graph.now.packages in
    let words = c.args.words.now in
    let k = c.loop-word.word-index in
    rw (passed_on.1, passed_on.2) (unclear_word g.F.Format.format packages (texts words) (texts (take k words)) (texts (drop (k + 1) words)) _
    (cut_at (λ (text : Bor (List ℕ)). text.now) words k _ _ c.loop-word-test.true refl)
    (all_clear (g.F.Format.format.meant packages) (texts (take k words)) c.loop-word.ids.items c.loop-word.invariant.named) _ _ c.in_err-id.ensures.unclear)

pub loop-word-preserved : goal.loop-word-preserved
loop-word-preserved g c =
    let packages = c.args.graph.now.packages in
    let pushed = c.in-Ok.ensures.items in
    rw pushed (record {
      named = fits_with (λ (text : Bor (List ℕ)). text.now) c.args.words.now c.loop-word.word-index _ _ c.loop-word-test.true refl (Means (g.F.Format.format.meant packages)) c.loop-word.ids.items c.in_ok-id.id c.loop-word.invariant.named
          c.in_ok-id.ensures.found;
      known = All-push (IsKnown packages) c.loop-word.ids.items c.in_ok-id.id c.loop-word.invariant.known c.in_ok-id.ensures.known;
    })
