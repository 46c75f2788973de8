use Rattle.std.proofs.Common.{◌∙◌, ap, ◌++◌, List, codes}
use Rattle.std.proofs.lemmas.Result.{on_ok_weaker}
use Rattle.std.specs.Prelude.{slice_get}
use Rattle.json.specs.Json.{member, no_members, string}
use Rattle.json.specs.Token.{Token}
use Rattle.json.specs.Tree.{members_tokens}
use Rattle.guppy.specs.Views.{graph_packages, package_position}
use Rattle.guppy_print.proofs.WrittenObjects.{object_written, package_written}
use Rattle.guppy_print.proofs.objects.push_known.Goals as goal

pub returns-clause-tokens : goal.returns-clause-tokens
returns-clause-tokens c =
    let o = slice_get (graph_packages c.args.metadata) (package_position c.args.metadata) in
    let name = c.name-name.result.now in
    let version = c.as_str.result.now in
    let id = c.repr.result.now in
    let path = c.as_str-2.result.now in
    let path_member = member (codes "manifest_path") (string path) no_members in
    let id_member = member (codes "id") (string id) path_member in
    let version_member = member (codes "version") (string version) id_member in
    let all = member (codes "name") (string name) version_member in
    let before = c.args.writer.now.tokens in
    on_ok_weaker c.end_object.result (λ told. package_written o name version id path
    c.name-name.ensures (rw c.as_str.ensures.value c.in_ok-version.ensures) (rw c.repr.ensures c.id-id.ensures) (rw c.as_str-2.ensures c.manifest_path-manifest.ensures) before c.end_object.new.self.tokens
    (told
    ∙ c.in_ok-push_member-4.ensures.tokens no_members
    ∙ c.in_ok-push_member-3.ensures.tokens path_member
    ∙ c.in_ok-push_member-2.ensures.tokens id_member
    ∙ c.in_ok-push_member.ensures.tokens version_member
    ∙ ap (λ (l : List Token). l ++ members_tokens all) c.in_ok-begin_object.ensures.ok
    ∙ object_written before all))
    c.end_object.ensures.ok
