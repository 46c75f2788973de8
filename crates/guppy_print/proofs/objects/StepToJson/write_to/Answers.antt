use Rattle.std.proofs.Common.{◌∙◌, ap, ◌++◌, List, codes}
use Rattle.std.proofs.lemmas.Result.{on_ok_weaker}
use Rattle.json.specs.Json.{member, no_members}
use Rattle.json.specs.Token.{Token}
use Rattle.json.specs.Tree.{members_tokens}
use Rattle.guppy_print.specs.Objects.{kinds_array, package_object}
use Rattle.guppy_print.proofs.WrittenObjects.{object_written}
use Rattle.guppy_print.proofs.objects.StepToJson.write_to.Goals as goal

pub returns-clause-tokens : goal.returns-clause-tokens
returns-clause-tokens c =
    let step = c.args.self.now in
    let sections = member (codes "sections") (kinds_array step.kinds) no_members in
    let all = member (codes "package") (package_object c.args.graph.now.packages step.id.now) sections in
    on_ok_weaker c.end_object.result (λ told. told
    ∙ c.in_ok-push_member-2.ensures.tokens no_members
    ∙ c.in_ok-push_member.ensures.tokens sections
    ∙ ap (λ (l : List Token). l ++ members_tokens all) c.in_ok-begin_object.ensures.ok
    ∙ object_written c.args.writer.now.tokens all)
    c.end_object.ensures.ok
