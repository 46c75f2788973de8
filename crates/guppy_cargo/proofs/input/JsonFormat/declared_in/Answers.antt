use Rattle.std.proofs.Common.{◌≡◌, ℕ, List, sym, subst, arith}
use Rattle.std.specs.Prelude.{IsSomeAnd}
use Rattle.std.proofs.lemmas.Result.{IfOk-weaker}
use Rattle.json.specs.Json.{document}
use Rattle.guppy_declared.specs.Declares.{Declares}
use Rattle.guppy_cargo.proofs.input.JsonFormat.declared_in.Goals as goal

pub returns-in-Ok : goal.returns-in-Ok
returns-in-Ok c =
    let same : c.in-Ok.text.now ≡ c.args.input.now = c.in-Ok.ensures.0 in
    let Says : List ℕ → List ℕ → List ℕ → Type 0 = λ from to text. IsSomeAnd (document text) (λ d. Declares d from to) in
    IfOk-weaker c.declared_members.result _ _ (λ pairs are from to. (
      λ there. (c.in-Ok.ensures.1, subst (Says from to) same ((are from to).0 there)),
      λ said. (are from to).1 (subst (Says from to) (sym same) said.1),
    )) c.declared_members.ensures
