use Rattle.std.proofs.Common.{◌∙◌, ap, sym, ◌++◌, ◌∷◌, [], List, Bor, codes, map, refl}
use Rattle.std.proofs.lemmas.Result.{on_ok_weaker}
use Rattle.json.specs.Json.{member, no_members}
use Rattle.json.specs.Token.{Token, end_object}
use Rattle.json.specs.Tree.{json_tokens, members_tokens}
use Rattle.guppy_print.specs.Objects.{needs_object, package_object, packages_array}
use Rattle.guppy_data.specs.declared.texts.package_id.PackageId.{PackageId}
use Rattle.guppy_print.proofs.WrittenObjects.{member_written, object_written}
use Rattle.guppy_print.proofs.objects.push_needs.Goals as goal

pub returns-clause-tokens : goal.returns-clause-tokens
returns-clause-tokens c =
    let packages = c.args.graph.now.packages in
    let ids = λ (row : List (Bor PackageId)). map (λ id. id.now) row in
    let others = packages_array packages (ids c.in-Some.needed_by.now) in
    let needed_by = member (codes "needed_by") others no_members in
    let all = member (codes "package") (package_object packages c.in-Some.id.now.now) needed_by in
    on_ok_weaker c.end_object.result (λ told. told
    ∙ ap (λ (l : List Token). l ++ end_object ∷ []) (c.in_ok-push_all.ensures.tokens ∙ rw c.in_ok-key.ensures.ok refl)
    ∙ member_written c.push_member.new.writer.tokens (codes "needed_by") others no_members
    ∙ c.in_ok-push_member.ensures.tokens needed_by
    ∙ ap (λ (l : List Token). l ++ members_tokens all) c.in_ok-begin_object.ensures.ok
    ∙ object_written c.args.writer.now.tokens all
    ∙ ap (λ row. c.args.writer.now.tokens ++ json_tokens (needs_object packages (ids row))) (sym c.in-Some.ensures.cases.0))
    c.end_object.ensures.ok
