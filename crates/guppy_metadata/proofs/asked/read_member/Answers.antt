use Rattle.json.specs.Value.{value_view}
use Rattle.json.proofs.Grammar.{left_some}
use Rattle.json.specs.Json.{value}
use Rattle.std.proofs.Common.{refl}
use Rattle.guppy_metadata.proofs.AskedValues.{others_kept, one_put}
use Rattle.guppy_metadata.proofs.Turns.{of_ok}
use Rattle.guppy_metadata.proofs.asked.read_member.Goals as goal

pub returns-in_ok-values-in-Some : goal.returns-in_ok-values-in-Some
returns-in_ok-values-in-Some c =
    let told = value_view c.in_ok-values-in-Some.field-0 in (
      told,
      of_ok _ _ c.read.result _ c.in_ok-values-in-Some.ensures.value c.read.ensures.ok,
      λ d e adds are. one_put c.args.name.now told d e adds _ c.args.values.now c.in-Some.place _ c.requires.distinct c.in-Some.ensures refl are,
    )

pub returns-in_ok-ok-in-None : goal.returns-in_ok-ok-in-None
returns-in_ok-ok-in-None c =
    let skipped = left_some (value c.args.depth c.args.reader.now) c.skip_value.new.self (of_ok _ _ c.skip_value.result _ c.in_ok-ok-in-None.ensures.value c.skip_value.ensures.value) in (
      skipped.0,
      skipped.1,
      λ d e adds are. others_kept c.args.name.now skipped.0 d e adds _ c.args.values.now c.in-None.ensures are,
    )
