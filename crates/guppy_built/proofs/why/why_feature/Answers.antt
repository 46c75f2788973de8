use Rattle.std.proofs.Common.{map, subst}
use Rattle.guppy_features.specs.Questions.{Question}
use Rattle.guppy_features.specs.Unresolved.{AreResolved}
use Rattle.guppy_features.specs.declared.fact.BuildPlatform.TheVariants.{Target, Host}
use Rattle.guppy_built.specs.Asked.{IsAsked, choice_of}
use Rattle.guppy_built.specs.Names.{step_shown}
use Rattle.guppy_built.specs.Rows.{IsFeatureOn}
use Rattle.guppy_built.specs.Why.{IsWhyFeature}
use Rattle.guppy_graph.proofs.PackageIds.{within_of}
use Rattle.std.proofs.lemmas.Result.{err_from_is_err_and}
use Rattle.guppy_built.proofs.Refused.{lacking_refused, why_refused}
use Rattle.guppy_built.proofs.why.why_feature.Goals as goal

pub returns-in-Some-clause-ok : goal.returns-in-Some-clause-ok
returns-in-Some-clause-ok c =
    let options = c.in_ok-options.options in
    record {
      named = c.in_ok-members.ensures.named;
      options = options;
      members = c.in_ok-members.members.items;
      asked = subst (IsAsked c.args.graph.now (choice_of c.args.question.now) options) c.as_slice.ensures.value c.in_ok-options.ensures.ok;
      resolved = subst (λ (q : Question). AreResolved q) c.in_ok-set.ensures c.in_ok-all_resolved.ensures.ok;
      position = c.position_of-position.result;
      found = c.position_of-position.ensures;
      why = subst (λ (q : Question). IsWhyFeature q c.position_of-position.result c.args.name.now (map step_shown c.in-Some.steps.items)) c.in_ok-set.ensures
          (rw c.in-Some.is at c.in_ok-steps.ensures.on);
    }

pub returns-clause-err : goal.returns-clause-err
returns-clause-err c =
    let options = c.in_ok-options.options in
    let p = c.position_of-position.result in
    let off = c.in_ok-steps.ensures.off c.in-None.is in
    record {
      named = c.in_ok-members.ensures.named;
      options = options;
      members = c.in_ok-members.members.items;
      asked = subst (IsAsked c.args.graph.now (choice_of c.args.question.now) options) c.as_slice.ensures.value c.in_ok-options.ensures.ok;
      resolved = subst (λ (q : Question). AreResolved q) c.in_ok-set.ensures c.in_ok-all_resolved.ensures.ok;
      position = p;
      found = c.position_of-position.ensures;
      target = subst (λ (q : Question). ¬ IsFeatureOn q p Target c.args.name.now) c.in_ok-set.ensures off.0;
      host = subst (λ (q : Question). ¬ IsFeatureOn q p Host c.args.name.now) c.in_ok-set.ensures off.1;
    }

pub why_on_one-requires-clause-within : goal.why_on_one-requires-clause-within
why_on_one-requires-clause-within c = within_of c.args.graph.now.packages c.args.id.now c.position_of-position.result c.position_of-position.ensures

pub returns-in_err-all_resolved-clause-err : goal.returns-in_err-all_resolved-clause-err
returns-in_err-all_resolved-clause-err c =
    let passed_on = err_from_is_err_and c.from_residual-in_err-all_resolved.result c.from_residual-in_err-all_resolved.ensures.1 in
    rw (passed_on.1, passed_on.2)
    (why_refused c.args.graph.now (choice_of c.args.question.now) c.args.id.now c.args.name.now c.in_err-all_resolved.field-0.0
    (lacking_refused c.args.graph.now (choice_of c.args.question.now) c.in_ok-options.options c.as_slice.result.now c.in_ok-options.ensures.ok _ c.in_ok-set.ensures c.in_err-all_resolved.field-0.0 c.in_err-all_resolved.ensures.err))
