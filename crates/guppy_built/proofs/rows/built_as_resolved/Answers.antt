use Rattle.std.proofs.Common.{◌∙◌, ap, map, sym, subst}
use Rattle.std.proofs.lemmas.Result.{IfErr-weaker, IfOk-weaker}
use Rattle.guppy_features.specs.Questions.{Question, question}
use Rattle.guppy_builds.specs.Building.{Builds, builds}
use Rattle.guppy_built.specs.Asked.{IsAsked, IsChoiceFault, choice_of}
use Rattle.guppy_built.specs.Rows.{AreRows, row_of}
use Rattle.guppy_built.proofs.rows.built_as_resolved.Goals as goal

pub returns-clause-ok : goal.returns-clause-ok
returns-clause-ok c =
    let g = c.args.graph.now in
    let options = c.in_ok-options.options in
    let members = c.in_ok-members.members.items in
    IfOk-weaker c.rows_in.result _ _ (λ rows is. record {
      options = options;
      members = members;
      asked = subst (IsAsked g (choice_of c.args.question.now) options) c.as_slice.ensures.value c.in_ok-options.ensures.ok;
      exact = subst (λ (b : Builds). AreRows b (map row_of rows.items)) (ap (λ (q : Question). builds q c.as_slice-2.result.now) c.in_ok-set.ensures ∙ ap (builds (question g options)) c.as_slice-2.ensures.value) is;
    }) c.rows_in.ensures.ok

pub returns-clause-err : goal.returns-clause-err
returns-clause-err c =
    let P = IsChoiceFault c.args.graph.now (choice_of c.args.question.now) in
    IfErr-weaker c.rows_in.result _ P (λ fault is. subst P (sym is) tt) c.rows_in.ensures.err
