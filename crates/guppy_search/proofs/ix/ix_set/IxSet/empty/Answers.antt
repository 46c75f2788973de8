use Rattle.std.proofs.Common.{refl, sym, ◌∙◌, arith, ap}
use Rattle.std.proofs.Math.ListN.{length-replicate}
use Rattle.guppy_search.specs.IxSet.{member_count}
use Rattle.guppy_search.proofs.Marks.{marks_of-zeros, zeros_clear}
use Rattle.guppy_search.proofs.Members.{member_count-replicate, has-replicate}
use Rattle.guppy_search.proofs.ix.ix_set.IxSet.empty.Goals as goal

pub invariant_of-result : goal.invariant_of-result
invariant_of-result g c =
    let e = c.in_ok-words.ensures.items_if_clones_equal (λ y h. h) in
    rw e (record {
      room = rw length-replicate refl;
      small = omega arith;
      counted = sym (ap member_count (marks_of-zeros _ c.args.node_count) ∙ member_count-replicate c.args.node_count);
      fit = λ p h. let none = has-replicate c.args.node_count p in let is_in = rw marks_of-zeros at h in absurd (cc);
      clear = λ k h. zeros_clear _ k;
    })

pub returns : goal.returns
returns g c =
    let e = c.in_ok-words.ensures.items_if_clones_equal (λ y h. h) in
    rw e (marks_of-zeros _ _)
