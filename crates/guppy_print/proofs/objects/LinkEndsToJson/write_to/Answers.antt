use Rattle.std.proofs.Common.{◌∙◌, ap, ◌++◌, List, codes}
use Rattle.std.proofs.lemmas.Result.{on_ok_weaker}
use Rattle.json.specs.Json.{member, no_members}
use Rattle.json.specs.Token.{Token}
use Rattle.json.specs.Tree.{members_tokens}
use Rattle.guppy_print.specs.Objects.{kinds_array, package_object}
use Rattle.guppy_print.proofs.WrittenObjects.{object_written}
use Rattle.guppy_print.proofs.objects.LinkEndsToJson.write_to.Goals as goal

pub returns-clause-tokens : goal.returns-clause-tokens
returns-clause-tokens c =
    let link = c.args.self.now in
    let packages = c.args.graph.now.packages in
    let sections = member (codes "sections") (kinds_array link.kinds) no_members in
    let to = member (codes "to") (package_object packages link.to.now) sections in
    let all = member (codes "from") (package_object packages link.from.now) to in
    on_ok_weaker c.end_object.result (λ told. told
    ∙ c.in_ok-push_member-3.ensures.tokens no_members
    ∙ c.in_ok-push_member-2.ensures.tokens sections
    ∙ c.in_ok-push_member.ensures.tokens to
    ∙ ap (λ (l : List Token). l ++ members_tokens all) c.in_ok-begin_object.ensures.ok
    ∙ object_written c.args.writer.now.tokens all)
    c.end_object.ensures.ok
