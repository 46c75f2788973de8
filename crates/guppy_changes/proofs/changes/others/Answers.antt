use Rattle.std.proofs.Common.{◌≡◌, ◌∙◌, Bor, List, map, refl, subst, true, false}
use Rattle.std.proofs.lemmas.List.{take_all}
use Rattle.guppy_data.specs.declared.texts.package_id.PackageId.{PackageId}
use Rattle.guppy_data.specs.declared.records.PackageRecord.{PackageRecord}
use Rattle.guppy_graph.specs.Ids.{ids_of}
use Rattle.guppy_changes.specs.Changes.{AreOthers, none}
use Rattle.guppy_changes.specs.Missing.{IsKept}
use Rattle.guppy_changes.proofs.Others.{next_other, next_kept}
use Rattle.guppy_changes.proofs.changes.others.Goals.{then-not-is_kept+in_ok-push, else-not-is_kept}
use Rattle.guppy_changes.proofs.changes.others.Goals as goal

pub loop-package-init : goal.loop-package-init
loop-package-init c = rw c.new-ids.ensures.items none

pub loop-package-preserved : goal.loop-package-preserved
loop-package-preserved c =
    let P = IsKept c.args.before.now.packages (map (λ id. id.now) c.args.differing.now) in
    let items = c.nodes-package-items.result.now in
    let i = c.loop-package.package-index in
    let x = c.package-item.result in
    let seen = λ (r : PackageRecord). r.id in
    let told = λ (id : Bor PackageId). id.now in
    elim c.if-not-is_kept.branch [
      | then-not-is_kept+in_ok-push w ↦ rw w.ids-is (next_other P seen told items i x c.loop-package-test.true c.package-item.is c.loop-package.ids.items w.push.new.self.items _ w.in_ok-push.ensures.items refl c.loop-package.invariant
          (λ (kept : P x.id). let is : c.is_kept.result ≡ true = c.is_kept.ensures.1 kept in let isnt : c.is_kept.result ≡ false = w.if-not-is_kept.true in absurd (cc)))
      | else-not-is_kept w ↦ rw w.ids-is (next_kept P seen told items i x c.loop-package-test.true c.package-item.is (map told c.loop-package.ids.items) c.loop-package.invariant
          (c.is_kept.ensures.0 w.if-not-is_kept.false))
    ]

pub returns : goal.returns
returns c =
    let P = IsKept c.args.before.now.packages (map (λ id. id.now) c.args.differing.now) in
    let items = c.nodes-package-items.result.now in
    let told = map (λ (id : Bor PackageId). id.now) c.loop-package.ids.items in
    let all = take_all c.loop-package.package-index items c.loop-package-test.false in
    let nodes = c.nodes-package-items.ensures ∙ c.dep_graph.ensures.nodes in
    subst (λ (xs : List PackageRecord). AreOthers P (ids_of xs) told) (all ∙ nodes) c.loop-package.invariant
