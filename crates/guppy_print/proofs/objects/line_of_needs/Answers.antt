use Rattle.std.proofs.Common.{◌∙◌, ap, arith, [], ◌∷◌, ◌++◌, ℕ, List, Bor, Global, map}
use Rattle.std.specs.Prelude.{Vec}
use Rattle.std.proofs.lemmas.List.{take_all}
use Rattle.std.proofs.lemmas.Result.{IfOk-weaker}
use Rattle.std.specs.List.{flat_map}
use Rattle.json.specs.Print.{print}
use Rattle.json.specs.Token.{Token, begin_array, end_array}
use Rattle.json.specs.Tree.{json_tokens}
use Rattle.guppy_command.specs.Printed.{line_of}
use Rattle.guppy_print.specs.Objects.{needs_object}
use Rattle.guppy_print.proofs.WrittenObjects.{array_written}
use Rattle.guppy_print.proofs.objects.line_of_needs.Goals as goal

pub returns : goal.returns
returns c =
    let objects = λ (rows : List (Vec (Bor (List ℕ)) Global)). map (needs_object c.args.graph.now.packages) (map (λ row. map (λ id. id.now) row.items) rows) in
    let all = take_all c.loop-row.row-index c.args.rows.now (let past = c.loop-row-test.false in omega arith) in
    let tokens = c.in_ok-end_array.ensures.ok
    ∙ ap (λ l. l ++ end_array ∷ []) (c.loop-row.invariant.1 ∙ ap (λ rows. begin_array ∷ flat_map json_tokens (objects rows)) all)
    ∙ array_written [] (objects c.args.rows.now) in
    IfOk-weaker c.line_of.result _ _ (λ text told. told ∙ ap (λ (l : List Token). line_of c.args.end.now (print l)) tokens) c.line_of.ensures
