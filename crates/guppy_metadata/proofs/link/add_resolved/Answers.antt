use Rattle.std.proofs.Common.{◌≡◌, ◌∙◌, Result, Ok, Err, Some, None, sym, ap}
use Rattle.std.specs.Option.{option_copied}
use Rattle.std.specs.Prelude.{OnOk}
use Rattle.std.proofs.lemmas.Result.{IfErr-weaker}
use Rattle.guppy_metadata.specs.Package.{with_id}
use Rattle.guppy_metadata.proofs.SamePackages.{asked_once}
use Rattle.guppy_metadata.proofs.link.add_resolved.Goals.{in_default-via-in-Some+in_default, in_default-via-in_default}
use Rattle.guppy_metadata.proofs.link.add_resolved.Goals as goal

-- what two clauses say where all is well
together : {T E P Q R : Type 0} (r : Result T E) → (P → Q → R) → OnOk r P → OnOk r Q → OnOk r R
together (Ok x) follows p q = follows p q
together (Err e) follows p q = tt

pub returns-in-Some-Some-clause-added : goal.returns-in-Some-Some-clause-added
returns-in-Some-Some-clause-added c =
    let some : with_id c.args.from.now c.args.packages.packages.now ≡ Some c.in-Some-Some.asking.now = sym c.requires.asking ∙ ap option_copied c.in-Some-Some.is-0 in
    together c.add_link_between.result (λ added matched. (
      added.0,
      added.1,
      λ d is. record {
        resolved = c.args.resolved.now;
        resolved_is = is;
        joins = added.2;
        asked = rw (some, sym c.in-Some-Some.ensures) (added.3, matched);
      },
    )) c.add_link_between.ensures.added c.add_link_between.ensures.matched

pub returns-in-Some-Some-clause-refused : goal.returns-in-Some-Some-clause-refused
returns-in-Some-Some-clause-refused c =
    let packages = c.args.packages.packages.now in
    let some : with_id c.args.from.now packages ≡ Some c.in-Some-Some.asking.now = sym c.requires.asking ∙ ap option_copied c.in-Some-Some.is-0 in
    IfErr-weaker c.add_link_between.result _ _
    (λ e none other link holds. none other link (rw (some, sym c.in-Some-Some.ensures) at (asked_once packages c.args.from.now holds.0 link holds.2 c.args.resolved.now holds.1)))
    c.add_link_between.ensures.refused

pub returns-in_ok-push_unasked-in_default-clause-added : goal.returns-in_ok-push_unasked-in_default-clause-added
returns-in_ok-push_unasked-in_default-clause-added c =
    let packages = c.args.packages.packages.now in
    let added = c.in_ok-push_unasked-in_default.ensures in (
      added.0,
      added.1,
      λ d is. record {
        resolved = c.args.resolved.now;
        resolved_is = is;
        joins = added.2;
        asked = elim c.in_default.branch [
          | in_default-via-in-Some+in_default w ↦
              let some : with_id c.args.from.now packages ≡ Some w.in_default.field-0-0.now = sym c.requires.asking ∙ ap option_copied w.in_default.is-0 in
              rw (some, sym w.in_default.ensures) added.3
          | in_default-via-in_default w ↦
              let none : with_id c.args.from.now packages ≡ None = sym c.requires.asking ∙ ap option_copied w.in_default.is-0 in
              rw none added.3
        ];
      },
    )
