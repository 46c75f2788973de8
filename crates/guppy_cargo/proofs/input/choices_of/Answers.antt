use Rattle.std.proofs.Common.{arith, ◌≡◌, ◌∙◌, ap, subst, ℕ, List, Bor, map, string_bytes}
use Rattle.std.proofs.lemmas.List.{take_all}
use Rattle.std.specs.Prelude.{IfOk, codes}
use Rattle.guppy_print.specs.Format.{alternatives}
use Rattle.guppy_print.proofs.PrintedTexts.{joined_texts}
use Rattle.guppy_arguments.specs.Names.{text}
use Rattle.guppy_cargo.proofs.input.choices_of.Goals as goal

pub returns : goal.returns
returns c packages are =
    subst (λ bytes. IfOk c.join.result (λ choices. string_bytes choices ≡ bytes))
    (joined_texts (codes " or ") c.deref.result.now
    ∙ ap alternatives (ap (map (λ (t : Bor (List ℕ)). t.now)) c.deref.ensures.value
    ∙ c.loop-id.invariant packages are
    ∙ ap (map (text packages)) (take_all c.loop-id.id-index c.args.ids.now (let past = c.loop-id-test.false in omega arith))))
    c.join.ensures.ok
