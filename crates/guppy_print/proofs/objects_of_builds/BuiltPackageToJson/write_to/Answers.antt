use Rattle.std.proofs.Common.{◌∙◌, ap, ◌++◌, List, codes}
use Rattle.std.proofs.lemmas.Result.{on_ok_weaker}
use Rattle.json.specs.Json.{member, no_members, string}
use Rattle.json.specs.Token.{Token}
use Rattle.json.specs.Tree.{members_tokens}
use Rattle.guppy_print.specs.Objects.{array_of, package_object}
use Rattle.guppy_built.specs.Rows.{row_of}
use Rattle.guppy_print.proofs.WrittenObjects.{object_written}
use Rattle.guppy_print.proofs.objects_of_builds.BuiltPackageToJson.write_to.Goals as goal

pub returns-clause-tokens : goal.returns-clause-tokens
returns-clause-tokens c =
    let row = row_of c.args.self.now in
    let features = member (codes "features") (array_of string row.features) no_members in
    let platform = member (codes "platform") (string row.platform) features in
    let all = member (codes "package") (package_object c.args.graph.now.packages row.id) platform in
    on_ok_weaker c.end_object.result (λ told. told
    ∙ c.in_ok-push_member-3.ensures.tokens no_members
    ∙ c.in_ok-push_member-2.ensures.tokens features
    ∙ c.in_ok-push_member.ensures.tokens platform
    ∙ ap (λ (l : List Token). l ++ members_tokens all) c.in_ok-begin_object.ensures.ok
    ∙ object_written c.args.writer.now.tokens all)
    c.end_object.ensures.ok
