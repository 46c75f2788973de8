use Rattle.std.proofs.Common.{◌≡◌, [], ◌∷◌, map, take}
use Rattle.std.specs.List.{flat_map}
use Rattle.json.specs.Token.{begin_array}
use Rattle.json.specs.Tree.{json_tokens}
use Rattle.guppy_print.specs.Objects.{needs_object}
use Rattle.guppy_print.proofs.objects.line_of_needs.Given as goal

abbrev pub invariant-loop-row : goal.invariant-loop-row
invariant-loop-row l = (l.writer.before ≡ []) × (l.writer.tokens ≡ begin_array ∷ flat_map json_tokens (map (needs_object l.graph.packages) (map (λ row. map (λ id. id.now) row.items) (take l.row-index l.rows))))
