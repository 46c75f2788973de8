use Rattle.std.proofs.Common.{◌∙◌, ap, arith, [], ◌∷◌, ◌++◌, List, map, refl}
use Rattle.std.proofs.lemmas.List.{take_all}
use Rattle.std.proofs.lemmas.Result.{on_ok_weaker}
use Rattle.json.specs.Token.{Token, end_array}
use Rattle.guppy_print.proofs.WrittenObjects.{array_written}
use Rattle.guppy_print.proofs.to_json.push_all.Goals as goal

pub returns-clause-tokens : goal.returns-clause-tokens
returns-clause-tokens g c =
    let all = take_all c.loop-item.item-index c.args.items.now (let past = c.loop-item-test.false in omega arith) in
    on_ok_weaker c.end_array.result (λ told. told
    ∙ ap (λ (l : List Token). l ++ end_array ∷ []) (c.loop-item.invariant.1 ∙ rw (c.in_ok-begin_array.ensures.ok, all) refl)
    ∙ array_written c.args.writer.now.tokens (map (g.T.ToJson.value c.args.graph.now.packages) (map g.T.ToJson.shown c.args.items.now)))
    c.end_array.ensures.ok
