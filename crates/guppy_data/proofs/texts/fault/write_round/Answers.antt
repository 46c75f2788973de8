use Rattle.std.proofs.Common.{◌≡◌, ℕ, List, [], Some, subst, ◌∷◌, ◌++◌, ◌∙◌, ◌+◌, ap, sym, add-one, suc, append_assoc, append-nil, arith, rules, codes, drop}
use Rattle.std.specs.Prelude.{slice_get}
use Rattle.std.specs.Fmt.{HasWritten}
use Rattle.std.specs.List.{flat_map}
use Rattle.std.proofs.lemmas.List.{drop_all}
use Rattle.guppy_data.specs.Texts.{first_text, round_text}
use Rattle.std.proofs.Output.{has_written_append}
use Rattle.std.proofs.Math.Seq.{drop-cons}
use Rattle.guppy_data.proofs.texts.fault.write_round.Goals as goal

pub loop-id-preserved : goal.loop-id-preserved
loop-id-preserved g c = λ plain.
    let so_far = c.loop-id.invariant plain in
    let id = c.id-item.result in
    let next = id ++ codes " -> " in
    let ids = c.args.ids.now in
    let i = c.loop-id.id-index in
    let ahead : drop i ids ≡ id ∷ drop (i + 1) ids = rw (add-one) (drop-cons ids i id (omega arith) ∙ ap (λ first. first ∷ drop (suc i) ids) (sym c.id-item.is)) in
    let text = flat_map (λ id. id ++ codes " -> ") in
    (so_far.0 ++ next, has_written_append _ _ _ _ _ _ so_far.1 (search rules), append_assoc so_far.0 next (text (drop (i + 1) ids)) ∙ ap (λ ids. so_far.0 ++ text ids) (sym ahead) ∙ so_far.2)

-- the first of the IDs
first_is : (ids : List (List ℕ)) (id : List ℕ) → Some id ≡ slice_get ids 0 → id ≡ first_text ids
first_is [] id h = absurd (cc)
first_is (x ∷ ids) id h = cc

pub returns-in-Some : goal.returns-in-Some
returns-in-Some g c = λ plain ok.
    let so_far = c.loop-id.invariant plain in
    let ids = c.args.ids.now in
    let text = flat_map (λ id. id ++ codes " -> ") in
    let all : drop c.loop-id.id-index c.args.ids.now ≡ [] = drop_all c.loop-id.id-index c.args.ids.now c.loop-id-test.false in
    let written : so_far.0 ≡ text c.args.ids.now = sym (append-nil so_far.0) ∙ ap (λ rest. so_far.0 ++ text rest) (sym all) ∙ so_far.2 in
    let same : so_far.0 ++ c.in-Some.first.now ≡ round_text c.args.ids.now = ap (λ t. t ++ c.in-Some.first.now) written ∙ ap (λ t. text c.args.ids.now ++ t) (first_is c.args.ids.now c.in-Some.first.now c.in-Some.ensures.value) in
    subst (λ t. HasWritten g.W.Write.write_str_gives c.args.f.now t c.write-in-Some.new.self) same (has_written_append _ _ _ _ _ _ so_far.1 (search rules))
