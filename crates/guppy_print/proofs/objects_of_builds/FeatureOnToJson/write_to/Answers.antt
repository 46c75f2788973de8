use Rattle.std.proofs.Common.{◌∙◌, ap, ◌++◌, List, codes}
use Rattle.std.proofs.lemmas.Result.{on_ok_weaker}
use Rattle.json.specs.Json.{member, no_members, string}
use Rattle.json.specs.Token.{Token}
use Rattle.json.specs.Tree.{members_tokens}
use Rattle.guppy_print.specs.Objects.{packages_array}
use Rattle.guppy_built.specs.Features.{feature_shown}
use Rattle.guppy_print.specs.ObjectsOfBuilds.{side_value}
use Rattle.guppy_print.proofs.WrittenObjects.{object_written}
use Rattle.guppy_print.proofs.objects_of_builds.FeatureOnToJson.write_to.Goals as goal

pub returns-clause-tokens : goal.returns-clause-tokens
returns-clause-tokens c =
    let on = feature_shown c.args.self.now in
    let askers = member (codes "asked_by") (packages_array c.args.graph.now.packages on.askers) no_members in
    let side = member (codes "side") (side_value on.side) askers in
    let all = member (codes "feature") (string on.name) side in
    on_ok_weaker c.end_object.result (λ told. told
    ∙ c.in_ok-push_member-3.ensures.tokens no_members
    ∙ c.in_ok-push_member-2.ensures.tokens askers
    ∙ c.in_ok-push_member.ensures.tokens side
    ∙ ap (λ (l : List Token). l ++ members_tokens all) c.in_ok-begin_object.ensures.ok
    ∙ object_written c.args.writer.now.tokens all)
    c.end_object.ensures.ok
