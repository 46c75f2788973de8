use Rattle.std.proofs.Common.{◌∙◌, ◌++◌, codes, sym, ap}
use Rattle.std.proofs.lemmas.Bool.Decides.{Decides-eqb}
use Rattle.std.proofs.lemmas.List.{append_cancel_right}
use Rattle.std.proofs.lemmas.Slice.Eq.{slice_eq-Decides}
use Rattle.guppy_declared.proofs.is_manifest_in.Goals as goal

pub returns-in-Some : goal.returns-in-Some
returns-in-Some c =
    let own = c.in-Some.own.now in
    let folder = c.args.folder.now in
    let end = codes "/Cargo.toml" in
    let decides = slice_eq-Decides Decides-eqb own folder c.eq.result c.eq.ensures in (
      λ yes. c.in-Some.ensures ∙ ap (λ l. l ++ end) (decides.0 yes),
      λ is. decides.1 (append_cancel_right own folder end (sym c.in-Some.ensures ∙ is)),
    )
