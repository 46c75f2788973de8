use Rattle.std.proofs.Common.{Bor}
use Rattle.std.specs.Str.{bytes_eq}
use Rattle.std.proofs.lemmas.Slice.Eq.{bytes_eq-Decides}
use Rattle.guppy_data.specs.declared.texts.package_id.PackageId.{PackageId}
use Rattle.guppy_changes.proofs.Absent.{not_apart, not_where}
use Rattle.guppy_changes.proofs.Sets.{set_has}
use Rattle.guppy_changes.proofs.changes.is_kept.Goals as goal

pub returns-in-Some : goal.returns-in-Some
returns-in-Some c =
    let v = λ (id : Bor PackageId). id.now in
    let has = set_has (λ (a b : Bor PackageId). bytes_eq a.now b.now) v (λ a b h. (bytes_eq-Decides a.now b.now).0 h) (λ a b e. (bytes_eq-Decides a.now b.now).1 e) c.args.differing.now c.args.id in (
      λ kept. ((c.in-Some.field-0, c.in-Some.ensures), λ there. not_apart c.contains.result kept (c.contains.ensures.1 (has.1 there))),
      λ (known, none). not_where c.contains.result (λ h. none (has.0 (c.contains.ensures.0 h))),
    )

pub returns-in-None : goal.returns-in-None
returns-in-None c = (λ h. absurd (cc), λ (known, none). absurd (c.in-None.ensures known))
