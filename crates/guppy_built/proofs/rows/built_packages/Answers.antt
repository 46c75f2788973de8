use Rattle.std.proofs.Common.{◌∙◌, ◌<◌, All, ap, length, map, sym, subst}
use Rattle.std.proofs.lemmas.Result.{IfErr-weaker, IfOk-weaker, err_from_is_err_and}
use Rattle.guppy_features.specs.Questions.{Question, question}
use Rattle.guppy_features.specs.Unresolved.{AreResolved}
use Rattle.guppy_builds.specs.Building.{Builds, builds}
use Rattle.guppy_built.specs.Asked.{IsAsked, choice_of}
use Rattle.guppy_built.specs.Refused.{IsBuiltFault}
use Rattle.guppy_built.specs.Rows.{AreRows, row_of}
use Rattle.guppy_built.proofs.Refused.{lacking_refused}
use Rattle.guppy_built.proofs.rows.built_packages.Goals as goal

pub returns-clause-ok : goal.returns-clause-ok
returns-clause-ok c =
    let g = c.args.graph.now in
    let options = c.in_ok-options.options in
    let members = c.in_ok-members.members.items in
    IfOk-weaker c.rows_in.result _ _ (λ rows is. record {
      named = c.in_ok-members.ensures.named;
      options = options;
      members = members;
      asked = subst (IsAsked g (choice_of c.args.question.now) options) c.as_slice.ensures.value c.in_ok-options.ensures.ok;
      resolved = subst (λ (q : Question). AreResolved q) c.in_ok-set.ensures c.in_ok-all_resolved.ensures.ok;
      exact = subst (λ (b : Builds). AreRows b (map row_of rows.items)) (ap (λ (q : Question). builds q c.as_slice-2.result.now) c.in_ok-set.ensures ∙ ap (builds (question g options)) c.as_slice-2.ensures.value) is;
    }) c.rows_in.ensures.ok

pub returns-clause-err : goal.returns-clause-err
returns-clause-err c =
    let P = IsBuiltFault c.args.graph.now (choice_of c.args.question.now) in
    IfErr-weaker c.rows_in.result _ P (λ fault is. subst P (sym is) tt) c.rows_in.ensures.err

pub returns-in_err-all_resolved-clause-err : goal.returns-in_err-all_resolved-clause-err
returns-in_err-all_resolved-clause-err c =
    let passed_on = err_from_is_err_and c.from_residual-in_err-all_resolved.result c.from_residual-in_err-all_resolved.ensures.1 in
    rw (passed_on.1, passed_on.2)
    (lacking_refused c.args.graph.now (choice_of c.args.question.now) c.in_ok-options.options c.as_slice.result.now c.in_ok-options.ensures.ok _ c.in_ok-set.ensures c.in_err-all_resolved.field-0.0 c.in_err-all_resolved.ensures.err)

pub rows_in-requires-clause-within : goal.rows_in-requires-clause-within
rows_in-requires-clause-within c = subst (All (λ m. m < length c.args.graph.now.packages)) (sym c.as_slice-2.ensures.value) c.in_ok-members.ensures.within
