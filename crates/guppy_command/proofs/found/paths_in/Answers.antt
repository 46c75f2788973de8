use Rattle.std.proofs.Common.{◌≡◌, ◌∙◌, ◌∷◌, ◌++◌, [], Err, ℕ, List, Bor, IfErr, IfSome, refl, rules, sym, ap, subst}
use Rattle.std.specs.List.{flat_map}
use Rattle.std.proofs.lemmas.Grind.{flat_map-append}
use Rattle.std.proofs.lemmas.List.{append-nil}
use Rattle.guppy_command.specs.Asked.{HasPaths, IsOfOne, IsPathsFault}
use Rattle.guppy_command.specs.Paths.{paths_of}
use Rattle.guppy_command.specs.Shown.{misread_shown, texts}
use Rattle.guppy_command.proofs.FirstItems.{contains_this, fits_with}
use Rattle.guppy_command.proofs.ShownItems.{IfSome-from}
use Rattle.guppy_command.proofs.found.paths_in.Goals as goal

pub returns-in_err-add_list-clause-err : goal.returns-in_err-add_list-clause-err
returns-in_err-add_list-clause-err g c =
    let has = g.D.Files.has c.args.files.now in
    let names = c.args.names.now in
    let none : Bor (List ℕ) = record { ref_ptr = (0, 0); now = [] } in
    let this = contains_this (λ name. name.now) names c.loop-file.file-index _ none c.loop-file-test.true refl in
    let is : c.from_residual.result ≡ Err c.in_err-add_list.field-0.0 = search rules in
    subst (λ r. IfErr r (λ misread. IfSome (misread_shown misread) (IsOfOne (IsPathsFault has) (texts names)))) (sym is)
    (IfSome-from (misread_shown c.in_err-add_list.field-0.0) _ _ c.in_err-add_list.ensures.err (λ misread fault. (_, this, fault)))

pub loop-file-preserved : goal.loop-file-preserved
loop-file-preserved g c =
    let has = g.D.Files.has c.args.files.now in
    let names = c.args.names.now in
    let none : Bor (List ℕ) = record { ref_ptr = (0, 0); now = [] } in
    let (lists, fit, are) = c.loop-file.invariant in
    let (bytes, this, more) = c.in_ok-add_list.ensures.ok in (
      lists ++ bytes ∷ [],
      fits_with (λ name. name.now) names c.loop-file.file-index _ none c.loop-file-test.true refl (HasPaths has) lists bytes fit this,
      more ∙ ap (λ front. front ++ paths_of bytes) are ∙ ap (λ last. flat_map paths_of lists ++ last) (sym (append-nil (paths_of bytes))) ∙ sym (flat_map-append paths_of lists (bytes ∷ [])),
    )
