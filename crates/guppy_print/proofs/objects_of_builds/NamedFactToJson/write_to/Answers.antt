use Rattle.std.proofs.Common.{◌∙◌, ap, ◌++◌, List}
use Rattle.std.proofs.lemmas.Result.{on_ok_weaker}
use Rattle.json.specs.Json.{no_members}
use Rattle.json.specs.Token.{Token}
use Rattle.json.specs.Tree.{members_tokens}
use Rattle.guppy_built.specs.Names.{fact_shown}
use Rattle.guppy_print.specs.ObjectsOfBuilds.{fact_members}
use Rattle.guppy_print.proofs.WrittenObjects.{object_written}
use Rattle.guppy_print.proofs.objects_of_builds.NamedFactToJson.write_to.Goals as goal

pub returns-clause-tokens : goal.returns-clause-tokens
returns-clause-tokens c =
    let all = fact_members c.args.graph.now.packages (fact_shown c.args.self.now) no_members in
    on_ok_weaker c.end_object.result (λ told. told
    ∙ c.in_ok-push_fact.ensures.tokens no_members
    ∙ ap (λ (l : List Token). l ++ members_tokens all) c.in_ok-begin_object.ensures.ok
    ∙ object_written c.args.writer.now.tokens all)
    c.end_object.ensures.ok
