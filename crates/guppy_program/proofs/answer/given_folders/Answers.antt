use Rattle.std.proofs.Common.{◌≡◌, refl, sym, subst, [], ◌+◌, ℕ, List, Bor, map, take, drop, get_or}
use Rattle.std.proofs.lemmas.List.{map_push}
use Rattle.std.proofs.lemmas.Result.{err_from_is_err_and}
use Rattle.guppy_affected.specs.Folders.{Given}
use Rattle.guppy_command.proofs.FirstItems.{fits_with}
use Rattle.guppy_program.specs.Answer.{AreGiven}
use Rattle.guppy_program.specs.Meant.{Means}
use Rattle.guppy_program.proofs.GivenFolders.{pair_seen, words_in, named_of, cut_words}
use Rattle.guppy_program.proofs.Refusals.{all_clear, unclear_word}
use Rattle.guppy_program.proofs.answer.given_folders.Goals as goal

abbrev shown : Bor (List ℕ) × List ℕ → Given
shown one = (one.0.now, one.1)

pub returns-in_err-owner-clause-err : goal.returns-in_err-owner-clause-err
returns-in_err-owner-clause-err g c =
    let passed_on = err_from_is_err_and c.from_residual.result c.from_residual.ensures.1 in
    let packages = c.args.graph.now.packages in
    let also = c.args.also.now in
    let k = c.loop-folder.folder-index in
    let meant = g.F.Format.format.meant packages in
    rw (passed_on.1, passed_on.2) (unclear_word g.F.Format.format packages (words_in also) (words_in (take k also)) (words_in (drop (k + 1) also)) _
    (cut_words also k _ _ c.loop-folder-test.true refl)
    (all_clear meant (words_in (take k also)) (map (λ (one : Given). one.1) (map shown c.loop-folder.given.items)) (named_of meant (map pair_seen (take k also)) (map shown c.loop-folder.given.items) c.loop-folder.invariant)) _ _ c.in_err-owner.ensures.unclear)

pub loop-folder-preserved : goal.loop-folder-preserved
loop-folder-preserved g c =
    let meant = g.F.Format.format.meant c.args.graph.now.packages in
    let also = c.args.also.now in
    let k = c.loop-folder.folder-index in
    let given = c.loop-folder.given.items in
    let none : Bor (List ℕ) = record { ref_ptr = (0, 0); now = [] } in
    let item = get_or also k (none, none) in
    let both = fits_with pair_seen also k item (none, none) c.loop-folder-test.true refl (λ both (one : Given). (one.0 ≡ both.0) × Means meant both.1 one.1) (map shown given) (item.0.now, c.in_ok-owner.owner)
    c.loop-folder.invariant (refl, c.in_ok-owner.ensures.found) in
    rw c.in-Ok.ensures.items (subst (AreGiven meant (map pair_seen (take (k + 1) also))) (sym (map_push shown given (item.0, c.in_ok-owner.owner))) both)
