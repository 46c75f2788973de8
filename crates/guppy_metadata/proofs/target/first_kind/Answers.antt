use Rattle.std.proofs.Common.{◌∙◌, ◌∷◌, slice_get, sym, ap, subst, codes}
use Rattle.std.specs.Option.{option_copied}
use Rattle.std.proofs.lemmas.Option.{none-some}
use Rattle.guppy_metadata.specs.Members.{data_of, AreTexts}
use Rattle.guppy_metadata.proofs.ListedTexts.{first_and_others}
use Rattle.guppy_metadata.proofs.OnceTold.{texts_once}
use Rattle.guppy_metadata.proofs.Refused.{refused}
use Rattle.guppy_metadata.proofs.target.first_kind.Goals as goal

pub returns-in_err-kind : goal.returns-in_err-kind
returns-in_err-kind c = refused _ _ _ c.from_residual.ensures (λ kinds holds. (kinds.0 ∷ kinds.1, holds)) c.in_err-kind.ensures

pub returns-in-Some : goal.returns-in-Some
returns-in-Some c =
    let told = c.in_ok-kind.ensures in
    let parts = first_and_others told.0 c.in-Some.kind.now (told.2 ∙ ap option_copied c.in-Some.is) in
    (parts.0, subst (AreTexts (codes "kind") (data_of c.args.target)) parts.1 told.1)

pub returns-in-None : goal.returns-in-None
returns-in-None c other_fault kinds are =
    let told = c.in_ok-kind.ensures in
    let same = texts_once (data_of c.args.target) (codes "kind") told.0 (kinds.0 ∷ kinds.1) told.1 are in
    none-some kinds.0 (sym (told.2 ∙ ap option_copied c.in-None.is) ∙ ap (λ texts. slice_get texts 0) same)
