use Rattle.std.proofs.Common.{◌≡◌, ◌∷◌, ◌++◌, ◌∙◌, ◌+◌, ap, sym, add-one, suc, append_assoc, arith, rules, codes, drop}
use Rattle.std.specs.List.{flat_map}
use Rattle.std.specs.String.{string_bytes}
use Rattle.std.proofs.Output.{has_written_append}
use Rattle.std.proofs.Math.Seq.{drop-cons}
use Rattle.guppy_data.proofs.texts.sorted_set.write_joined.Goals as goal

pub loop-name-preserved : goal.loop-name-preserved
loop-name-preserved g c = λ plain.
    let so_far = c.loop-name.invariant plain in
    let name = c.name-item.result in
    let next = codes ", " ++ string_bytes name in
    let rest = c.in-Some.rest.now in
    let i = c.loop-name.name-index in
    let ahead : drop i rest ≡ name ∷ drop (i + 1) rest = rw (add-one) (drop-cons rest i name (omega arith) ∙ ap (λ first. first ∷ drop (suc i) rest) (sym c.name-item.is)) in
    let text = flat_map (λ name. codes ", " ++ string_bytes name) in
    (so_far.0 ++ next, has_written_append _ _ _ _ _ _ so_far.1 (search rules), append_assoc so_far.0 next (text (drop (i + 1) rest)) ∙ ap (λ names. so_far.0 ++ text names) (sym ahead) ∙ so_far.2)
