use Rattle.std.proofs.Common.{◌≡◌, ◌∙◌, [], ◌∷◌, filter, sym, subst}
use Rattle.std.proofs.lemmas.Bool.{false≢true}
use Rattle.std.proofs.lemmas.Result.{IfOk-from_err}
use Rattle.guppy_metadata.specs.Fits.{fits}
use Rattle.guppy_metadata.specs.Gathered.{IsLinkOf}
use Rattle.guppy_metadata.proofs.MatchedDependencies.{none_picked, whole, matched_whole}
use Rattle.guppy_metadata.proofs.Refused.{failed, lacking}
use Rattle.guppy_metadata.proofs.link.add_link_between.Goals as goal

pub are_matched-requires : goal.are_matched-requires
are_matched-requires c = c.from_first_fitting-declared.ensures.first

pub push_asked-requires-clause-first : goal.push_asked-requires-clause-first
push_asked-requires-clause-first c = sym c.in-Some.ensures.value

pub push_asked-requires-clause-fitting : goal.push_asked-requires-clause-fitting
push_asked-requires-clause-fitting c = c.from_first_fitting-declared.ensures.first

pub returns-in_default-clause-refused : goal.returns-in_default-clause-refused
returns-in_default-clause-refused c other link asked =
    let p = fits c.args.asking.now c.args.resolved.now c.args.needed.now in
    let rest = c.from_first_fitting-declared.result.now in
    let same : filter p rest ≡ filter p c.args.asking.now.declared.items =
    whole c.args.asking.now c.args.resolved.now c.args.needed.now rest _ _ c.from_first_fitting-declared.ensures.all c.as_slice.ensures.value in
    let both : [] ≡ asked.0.first ∷ asked.0.others = sym (none_picked p rest c.in_default.ensures.value) ∙ (same ∙ asked.0.parts) in
    cc

pub returns-in_err-push_asked-clause-added : goal.returns-in_err-push_asked-clause-added
returns-in_err-push_asked-clause-added c = IfOk-from_err _ _ c.from_residual.ensures.0

pub returns-in_err-push_asked-clause-matched : goal.returns-in_err-push_asked-clause-matched
returns-in_err-push_asked-clause-matched c = IfOk-from_err _ _ c.from_residual.ensures.0

pub returns-in_err-push_asked-clause-refused : goal.returns-in_err-push_asked-clause-refused
returns-in_err-push_asked-clause-refused c = failed _ _ _ _ c.from_residual.ensures (λ e is. lacking _ e is)

pub returns-clause-added : goal.returns-clause-added
returns-clause-added c =
    let p = fits c.args.asking.now c.args.resolved.now c.args.needed.now in
    let rest = c.from_first_fitting-declared.result.now in
    let added = c.in_ok-push_asked.ensures in
    let same : filter p rest ≡ filter p c.args.asking.now.declared.items =
    whole c.args.asking.now c.args.resolved.now c.args.needed.now rest _ _ c.from_first_fitting-declared.ensures.all c.as_slice.ensures.value in (
      added.0,
      added.1,
      added.2,
      subst (λ xs. IsLinkOf xs added.0) same added.3,
    )

pub returns-clause-matched : goal.returns-clause-matched
returns-clause-matched c =
    sym (matched_whole c.args.asking.now c.args.resolved.now c.args.needed.now c.from_first_fitting-declared.result.now _ _ c.from_first_fitting-declared.ensures.all c.as_slice.ensures.value
    c.as_slice-usages.result.now _ c.as_slice-usages.ensures.value) ∙ sym c.if-not-are_matched.ensures

pub returns-then-not-are_matched-clause-refused : goal.returns-then-not-are_matched-clause-refused
returns-then-not-are_matched-clause-refused c other link asked =
    false≢true (c.if-not-are_matched.ensures
    ∙ (matched_whole c.args.asking.now c.args.resolved.now c.args.needed.now c.from_first_fitting-declared.result.now _ _ c.from_first_fitting-declared.ensures.all c.as_slice.ensures.value
    c.as_slice-usages.result.now _ c.as_slice-usages.ensures.value ∙ asked.1))
