use Rattle.std.proofs.Common.{◌∙◌, map, ap}
use Rattle.std.proofs.lemmas.Result.{IfOk-weaker}
use Rattle.json.specs.Value.{value_view}
use Rattle.guppy_declared.specs.Shown.{member_shown}
use Rattle.guppy_declared.proofs.Members.{members_are}
use Rattle.guppy_declared.proofs.members_of.Goals as goal

pub returns-in-Some : goal.returns-in-Some
returns-in-Some c =
    IfOk-weaker c.members_among.result _ _
    (λ members grown. members_are (value_view c.args.metadata.now) (map member_shown members.items) (map value_view c.as_slice.result.now) (ap (map value_view) c.as_slice.ensures.value ∙ c.in-Some.ensures) grown) c.members_among.ensures
