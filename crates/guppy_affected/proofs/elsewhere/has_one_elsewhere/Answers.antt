use Rattle.std.proofs.Common.{◌≡◌, ◌∙◌, ⊎_elim, refl, sym, ap, subst, true, List, [], ◌∷◌, ◌++◌, map, Contains, append_assoc, arith}
use Rattle.std.proofs.lemmas.List.{append-nil}
use Rattle.std.proofs.lemmas.List.Elements.{Contains-append_right}
use Rattle.guppy_data.specs.Path.{Part}
use Rattle.guppy_data.specs.BuildTarget.{seen_target}
use Rattle.guppy_data.specs.Component.{part_shown}
use Rattle.guppy_data.specs.declared.records.BuildTargetRecord.{BuildTargetRecord}
use Rattle.guppy_data.specs.Utf8Path.{path_text}
use Rattle.guppy.specs.TargetIterators.{targets_left}
use Rattle.guppy_folders.specs.Folders.{lists_in}
use Rattle.guppy_folders.specs.Places.{MeetsOne}
use Rattle.guppy_affected.specs.Folders.{LiesElsewhere, OneElsewhere}
use Rattle.guppy_folders.proofs.Elements.{here_first, One-push}
use Rattle.guppy_affected.proofs.elsewhere.has_one_elsewhere.Goals as goal

pub loop-target-init : goal.loop-target-init
loop-target-init c = ([], ap targets_left (sym c.into_iter-target-iterator.ensures.into_iter_gives), λ (t, (k, within, same), lies). absurd (omega arith))

pub returns-then-branch : goal.returns-then-branch
returns-then-branch c =
    let target = seen_target c.in-Some.target in
    let left = targets_left c.next.new.self in
    let seen = c.loop-target.invariant.0 in
    let whole = c.loop-target.invariant.1 ∙ ap (λ (l : List BuildTargetRecord). seen ++ l) c.in-Some.ensures.steps in (
      λ h. (target, subst (λ (l : List BuildTargetRecord). Contains l target) (sym whole) (Contains-append_right seen (target ∷ left) target (here_first target left)), c.in_ok-lies_elsewhere.ensures.0 c.if-branch.true),
      λ one. refl,
    )

pub loop-target-preserved : goal.loop-target-preserved
loop-target-preserved c =
    let root = path_text c.args.root in
    let own = map part_shown c.args.own.now in
    let P = λ (folder : List Part). MeetsOne folder (lists_in c.args.places.now) in
    let target = seen_target c.in-Some.target in
    let seen = c.loop-target.invariant.0 in (
      seen ++ target ∷ [],
      c.loop-target.invariant.1 ∙ ap (λ (l : List BuildTargetRecord). seen ++ l) c.in-Some.ensures.steps ∙ sym (append_assoc seen (target ∷ []) (targets_left c.next.new.self)),
      λ one. ⊎_elim c.loop-target.invariant.2
          (λ (lies : LiesElsewhere root own P target). let is : c.in_ok-lies_elsewhere.field-0 ≡ true = c.in_ok-lies_elsewhere.ensures.1 lies in absurd (cc))
          ((One-push (LiesElsewhere root own P) seen target).0 one),
    )

pub returns : goal.returns
returns c =
    let root = path_text c.args.root in
    let own = map part_shown c.args.own.now in
    let P = λ (folder : List Part). MeetsOne folder (lists_in c.args.places.now) in
    let seen = c.loop-target.invariant.0 in
    let all = c.loop-target.invariant.1 ∙ ap (λ (l : List BuildTargetRecord). seen ++ l) c.in-None.ensures.steps.0 ∙ append-nil seen in
    (λ h. absurd (cc h), λ one. absurd (c.loop-target.invariant.2 (subst (OneElsewhere root own P) all one)))
