use Rattle.std.proofs.Common.{sym, ◌∙◌, ◌≡◌, arith, ap, false, replicate, length}
use Rattle.std.proofs.Math.ListN.{length-replicate}
use Rattle.guppy_search.specs.IxSet.{member_count}
use Rattle.guppy_search.proofs.Marks.{length-marks_of, marks_of-zeros, zeros_clear}
use Rattle.guppy_search.proofs.Members.{member_count-replicate, has-replicate}
use Rattle.guppy_search.proofs.ix.ix_set.IxSet.clear.Goals as goal

pub invariant_of-self : goal.invariant_of-self
invariant_of-self g c =
    let i = c.self.inside in
    let room = c.self.invariant.room in
    rw (c.fill.ensures.items (λ y h. h)) (record {
      room = rw length-replicate (omega (arith, i.words.ok.0));
      small = c.self.invariant.small;
      counted = sym (ap member_count (marks_of-zeros _ i.count) ∙ member_count-replicate i.count);
      fit = λ p h. let none = has-replicate i.count p in let is_in = rw marks_of-zeros at h in absurd (cc);
      clear = λ k h. zeros_clear _ k;
    })

pub returns : goal.returns
returns g c =
    let i = c.self.inside in
    let count : i.count ≡ length c.args.self.now = sym (length-marks_of i.words.items i.count) ∙ ap length c.self.view_is in
    rw (c.fill.ensures.items (λ y h. h)) (marks_of-zeros _ i.count ∙ ap (λ n. replicate n false) count)
