use Rattle.std.proofs.Common.{map, subst}
use Rattle.guppy_graph.proofs.PackageIds.{within_of}
use Rattle.guppy_features.specs.Questions.{Question}
use Rattle.guppy_features.specs.Unresolved.{AreResolved}
use Rattle.guppy_built.specs.Asked.{IsAsked, choice_of}
use Rattle.guppy_built.specs.Features.{AreOnSides, feature_shown}
use Rattle.std.proofs.lemmas.Result.{err_from_is_err_and}
use Rattle.guppy_built.proofs.Refused.{lacking_refused}
use Rattle.guppy_built.proofs.askers.features_of.Goals as goal

pub returns-clause-ok : goal.returns-clause-ok
returns-clause-ok c =
    let options = c.in_ok-options.options in
    let p = c.position_of-position.result in
    record {
      named = c.in_ok-members.ensures.named;
      options = options;
      members = c.in_ok-members.members.items;
      asked = subst (IsAsked c.args.graph.now (choice_of c.args.question.now) options) c.as_slice.ensures.value c.in_ok-options.ensures.ok;
      resolved = subst (λ (q : Question). AreResolved q) c.in_ok-set.ensures c.in_ok-all_resolved.ensures.ok;
      position = p;
      found = c.position_of-position.ensures;
      exact = subst (λ (q : Question). AreOnSides q p (map feature_shown c.in_ok-features_on_sides.field-0.items)) c.in_ok-set.ensures c.in_ok-features_on_sides.ensures;
    }

pub returns-in_err-all_resolved-clause-err : goal.returns-in_err-all_resolved-clause-err
returns-in_err-all_resolved-clause-err c =
    let passed_on = err_from_is_err_and c.from_residual-in_err-all_resolved.result c.from_residual-in_err-all_resolved.ensures.1 in
    rw (passed_on.1, passed_on.2)
    (lacking_refused c.args.graph.now (choice_of c.args.question.now) c.in_ok-options.options c.as_slice.result.now c.in_ok-options.ensures.ok _ c.in_ok-set.ensures c.in_err-all_resolved.field-0.0 c.in_err-all_resolved.ensures.err)

pub features_on_sides-requires-clause-within : goal.features_on_sides-requires-clause-within
features_on_sides-requires-clause-within c = within_of c.args.graph.now.packages c.args.id.now c.position_of-position.result c.position_of-position.ensures
