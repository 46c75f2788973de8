use Rattle.std.proofs.Common.{◌≡◌, ◌∙◌, Bool, true, false, get_or, refl, sym, below_more}
use Rattle.std.specs.Prelude.{◌↔◌}
use Rattle.std.proofs.Math.Bool.{beq, not}
use Rattle.guppy_search.specs.Links.{near_end}
use Rattle.guppy_search.specs.IxSet.{has, IsIn}
use Rattle.guppy_search.specs.Resolve.{LeavesOne}
use Rattle.guppy_flat.specs.declared.flat.Ends.{Ends}
use Rattle.guppy_flat.specs.Flat.{unflagged, plain}
use Rattle.guppy_flat.proofs.JudgedTraces.{LeavesOne-at, link_found, tests_same, tests_differ}
use Rattle.guppy_flat.proofs.judging.leaving_are_marked.Goals as goal

abbrev none : Ends
none = record { from = 0; to = 0 }

told_other : (a b : Bool) → not (beq a b) ≡ true → a ≡ b → ⊥
told_other true true h e = cc
told_other true false h e = cc
told_other false true h e = cc
told_other false false h e = cc

told_same : (a b : Bool) → not (beq a b) ≡ false → a ≡ b
told_same true true h = refl
told_same true false h = absurd (cc)
told_same false true h = absurd (cc)
told_same false false h = refl

pub returns-then-marks-number : goal.returns-then-marks-number
returns-then-marks-number c = (
  λ h. absurd (cc),
  λ each.
      let d = c.args.direction in
      let links = plain c.args.links.now in
      let n = c.loop-number.number in
      let within = c.loop-number-test.true in
      let marks = c.args.marks.now in
      let link = unflagged (get_or c.args.links.now n none) in
      let leaves : c.is_marked-leaves.result ≡ has c.args.set.now (near_end d link) = rw (← c.near.ensures) c.is_marked-leaves.ensures in
      let at = LeavesOne-at d links (IsIn c.args.set.now) n link (link_found c.args.links.now n none within) in
      let other : has marks n ≡ has c.args.set.now (near_end d link) → ⊥ = λ e. told_other (has marks n) c.is_marked-leaves.result c.if-marks-number.true (e ∙ sym leaves) in
      absurd (tests_differ (IsIn marks n) (LeavesOne d links (IsIn c.args.set.now) n) (has marks n) (has c.args.set.now (near_end d link)) (λ h. h, λ h. h) (at.1, at.0) other (each n within)),
)

pub loop-number-preserved : goal.loop-number-preserved
loop-number-preserved c =
    let d = c.args.direction in
    let links = plain c.args.links.now in
    let n = c.loop-number.number in
    let within = c.loop-number-test.true in
    let marks = c.args.marks.now in
    let link = unflagged (get_or c.args.links.now n none) in
    let leaves : c.is_marked-leaves.result ≡ has c.args.set.now (near_end d link) = rw (← c.near.ensures) c.is_marked-leaves.ensures in
    let at = LeavesOne-at d links (IsIn c.args.set.now) n link (link_found c.args.links.now n none within) in
    let same : has marks n ≡ has c.args.set.now (near_end d link) = told_same (has marks n) c.is_marked-leaves.result c.if-marks-number.false ∙ leaves in
    below_more (λ m. IsIn marks m ↔ LeavesOne d links (IsIn c.args.set.now) m) n c.loop-number.invariant
    (tests_same (IsIn marks n) (LeavesOne d links (IsIn c.args.set.now) n) (has marks n) (has c.args.set.now (near_end d link)) (λ h. h, λ h. h) (at.1, at.0) same)
