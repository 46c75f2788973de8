use Rattle.std.proofs.Common.{◌≡◌, ◌∙◌, sym, refl, arith, subst, All, slice_get, ℕ, get_or, true, false}
use Rattle.std.specs.Prelude.{IsSomeAnd}
use Rattle.std.proofs.lemmas.List.{take_all}
use Rattle.std.proofs.lemmas.List.Elements.{All-more}
use Rattle.std.proofs.lemmas.Option.{slice_get_read, slice_get-get_or}
use Rattle.guppy_graph.specs.Verified.{HasFittingKind}
use Rattle.guppy_graph.proofs.Lists.{of_some, in_some}
use Rattle.guppy_graph.proofs.verify.first_misfit.Goals as goal

pub loop-place-init : goal.loop-place-init
loop-place-init c = λ k d within. absurd (omega arith)

pub returns-then-not-has_fitting_kind : goal.returns-then-not-has_fitting_kind
returns-then-not-has_fitting_kind c =
    let at = get_or c.args.places.now c.loop-place.place 0 in
    let target = c.index-targets-position.result in
    let found = slice_get_read c.args.targets.now _ at target refl (c.requires c.loop-place.place 0 c.loop-place-test.true) c.index-targets-position.is in
    record {
      item = at;
      found = slice_get-get_or c.args.places.now c.loop-place.place 0 c.loop-place-test.true;
      lacks = λ fits. absurd (let e : true ≡ false = sym (c.has_fitting_kind.ensures.1 (in_some (slice_get c.args.targets.now at) HasFittingKind target found fits)) ∙ c.if-not-has_fitting_kind.true in cc);
      before = c.loop-place.invariant;
    }

pub loop-place-preserved : goal.loop-place-preserved
loop-place-preserved c =
    let P : ℕ → Type 0 = λ p. IsSomeAnd (slice_get c.args.targets.now p) HasFittingKind in
    let at = get_or c.args.places.now c.loop-place.place 0 in
    let target = c.index-targets-position.result in
    let found = slice_get_read c.args.targets.now _ at target refl (c.requires c.loop-place.place 0 c.loop-place-test.true) c.index-targets-position.is in
    All-more P c.args.places.now c.loop-place.place 0 c.loop-place-test.true c.loop-place.invariant (of_some (slice_get c.args.targets.now at) HasFittingKind target found (c.has_fitting_kind.ensures.0 c.if-not-has_fitting_kind.false))

pub returns : goal.returns
returns c = subst (All (λ p. IsSomeAnd (slice_get c.args.targets.now p) HasFittingKind)) (take_all c.loop-place.place c.args.places.now c.loop-place-test.false) c.loop-place.invariant
