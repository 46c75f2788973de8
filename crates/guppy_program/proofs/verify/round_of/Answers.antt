use Rattle.std.proofs.Common.{◌≡◌, ◌∙◌, refl, ap, sym, ℕ, List, [], ◌∷◌, ◌++◌, map, take, codes, append_assoc, Some, None}
use Rattle.std.specs.Prelude.{slice_get}
use Rattle.std.proofs.lemmas.List.{take_all}
use Rattle.guppy_data.specs.Texts.{first_text, round_text}
use Rattle.guppy_print.specs.Printed.{called}
use Rattle.guppy_print.proofs.GrowingLines.{arrowed, arrows_more}
use Rattle.guppy_program.proofs.verify.round_of.Goals as goal

-- what the first of the packages is called
first_is : (call : List ℕ → List ℕ) (ids : List (List ℕ)) (id : List ℕ) → Some id ≡ slice_get ids 0 → call id ≡ first_text (map call ids)
first_is call [] id h = absurd (cc)
first_is call (x ∷ ids) id h = ap call (let same : id ≡ x = cc in same)

none_round : (call : List ℕ → List ℕ) (ids : List (List ℕ)) → None ≡ slice_get ids 0 → round_text (map call ids) ≡ []
none_round call [] h = refl
none_round call (x ∷ ids) h = absurd (cc)

pub loop-id-preserved : goal.loop-id-preserved
loop-id-preserved g c packages are =
    let call = called c.args.options.now (g.F.Format.format.text packages) in
    let ids = c.args.ids.now in
    let i = c.loop-id.id-index in
    let before = arrowed (map call (take i ids)) in
    c.in_ok-push_str-2.ensures.bytes
    ∙ ap (λ text. text ++ codes " -> ") (c.in_ok-push_str.ensures.bytes ∙ rw (c.text_of.ensures packages are, c.loop-id.invariant packages are) refl)
    ∙ append_assoc before (call c.id-item.result) (codes " -> ")
    ∙ sym (arrows_more call ids i c.id-item.result c.loop-id-test.true c.id-item.is)

pub returns : goal.returns
returns g c packages are =
    let call = called c.args.options.now (g.F.Format.format.text packages) in
    let ids = c.args.ids.now in
    c.in_ok-push_str-3.ensures.bytes
    ∙ rw (c.text_of-2.ensures packages are, c.loop-id.invariant packages are)
    (ap (λ some. arrowed (map call some) ++ call c.in-Some.first.now) (take_all c.loop-id.id-index ids c.loop-id-test.false)
    ∙ ap (λ last. arrowed (map call ids) ++ last) (first_is call ids c.in-Some.first.now c.in-Some.ensures.value))
