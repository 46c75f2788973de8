use Rattle.std.proofs.Common.{◌∙◌, codes}
use Rattle.std.proofs.lemmas.Result.{on_ok_weaker}
use Rattle.json.specs.Json.{member}
use Rattle.guppy_built.specs.Names.{fact_shown}
use Rattle.guppy_print.specs.ObjectsOfBuilds.{said_members, side_value}
use Rattle.guppy_print.proofs.objects_of_builds.push_fact.Goals as goal

pub returns-clause-tokens : goal.returns-clause-tokens
returns-clause-tokens c =
    let fact = fact_shown c.args.fact.now in
    on_ok_weaker c.push_said.result (λ told more.
    let said = said_members fact.said more in
    told more
    ∙ c.in_ok-push_member-2.ensures.tokens said
    ∙ c.in_ok-push_member.ensures.tokens (member (codes "side") (side_value fact.side) said))
    c.push_said.ensures.tokens
