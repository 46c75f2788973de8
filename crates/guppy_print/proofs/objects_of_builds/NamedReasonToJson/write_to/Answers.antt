use Rattle.std.proofs.Common.{◌∙◌, ap, ◌++◌, ◌∷◌, [], List, codes, refl}
use Rattle.std.proofs.lemmas.Result.{on_ok_weaker}
use Rattle.json.specs.Json.{member, no_members}
use Rattle.json.specs.Token.{Token, end_object}
use Rattle.json.specs.Tree.{members_tokens}
use Rattle.guppy_print.specs.Objects.{array_of}
use Rattle.guppy_built.specs.Names.{step_shown}
use Rattle.guppy_print.specs.ObjectsOfBuilds.{fact_members, fact_object}
use Rattle.guppy_print.proofs.WrittenObjects.{member_written, object_written}
use Rattle.guppy_print.proofs.objects_of_builds.NamedReasonToJson.write_to.Goals as goal

pub returns-clause-tokens : goal.returns-clause-tokens
returns-clause-tokens c =
    let packages = c.args.graph.now.packages in
    let step = step_shown c.args.self.now in
    let facts = array_of (fact_object packages) step.grounds in
    let grounds = member (codes "for") facts no_members in
    let all = fact_members packages step.fact grounds in
    on_ok_weaker c.end_object.result (λ told. told
    ∙ ap (λ (l : List Token). l ++ end_object ∷ []) (c.in_ok-push_grounds.ensures.tokens ∙ rw c.in_ok-key.ensures.ok refl)
    ∙ member_written c.push_fact.new.writer.tokens (codes "for") facts no_members
    ∙ c.in_ok-push_fact.ensures.tokens grounds
    ∙ ap (λ (l : List Token). l ++ members_tokens all) c.in_ok-begin_object.ensures.ok
    ∙ object_written c.args.writer.now.tokens all)
    c.end_object.ensures.ok
