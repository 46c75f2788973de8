use Rattle.std.proofs.Common.{◌≡◌, ◌∙◌, ap, subst, ℕ, List, ◌∷◌, [], Bor, map, string_bytes}
use Rattle.std.specs.Prelude.{IfOk}
use Rattle.std.specs.List.{join_by}
use Rattle.guppy_print.proofs.PrintedTexts.{joined_texts}
use Rattle.guppy_print.proofs.print.joined.Goals as goal

pub returns : goal.returns
returns g c packages are =
    subst (λ bytes. IfOk c.join.result (λ text. string_bytes text ≡ bytes))
    (joined_texts (32 ∷ []) c.deref.result.now ∙ ap (λ texts. join_by (λ text. text) (32 ∷ []) texts) (ap (map (λ (t : Bor (List ℕ)). t.now)) c.deref.ensures.value ∙ c.in_ok-texts_of.ensures packages are))
    c.join.ensures.ok
