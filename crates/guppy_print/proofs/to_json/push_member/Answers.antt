use Rattle.std.proofs.Common.{◌∙◌, ap, ◌++◌, List, refl}
use Rattle.std.proofs.lemmas.Result.{on_ok_weaker}
use Rattle.json.specs.Token.{Token}
use Rattle.json.specs.Tree.{members_tokens}
use Rattle.guppy_print.proofs.WrittenObjects.{member_written}
use Rattle.guppy_print.proofs.to_json.push_member.Goals as goal

pub returns-clause-tokens : goal.returns-clause-tokens
returns-clause-tokens g c =
    on_ok_weaker c.write_to.result (λ told more. ap (λ (l : List Token). l ++ members_tokens more) (told ∙ rw c.in_ok-key.ensures.ok refl)
    ∙ member_written c.args.writer.now.tokens c.args.name.now (g.T.ToJson.value c.args.graph.now.packages (g.T.ToJson.shown c.args.value.now)) more)
    c.write_to.ensures.tokens
