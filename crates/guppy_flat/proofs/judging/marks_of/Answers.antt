use Rattle.std.proofs.Common.{◌≡◌, ◌+◌, ◌∙◌, ℕ, true, false, List, [], ◌∷◌, ◌++◌, get_or, take, set, sym, subst, arith}
use Rattle.std.specs.Prelude.{◌↔◌, Contains}
use Rattle.std.proofs.Math.ListN.{length-set}
use Rattle.std.proofs.lemmas.List.{take_more, take_all}
use Rattle.guppy_search.specs.IxSet.{IsIn}
use Rattle.guppy_search.proofs.Lists.{EachAfter-push}
use Rattle.guppy_search.proofs.Members.{members-set}
use Rattle.guppy_flat.specs.Judging.{EachOnce}
use Rattle.guppy_flat.proofs.JudgedTraces.{EachAfter-at, read_is}
use Rattle.guppy_flat.proofs.judging.marks_of.Goals as goal

pub returns-then-index-clause-once : goal.returns-then-index-clause-once
returns-then-index-clause-once c = λ once.
    let shown = c.args.shown.now in
    let k = c.loop-place.place in
    let i = c.loop-place.invariant in
    let below = c.requires k 0 c.loop-place-test.true in
    let size = i.size in
    let here = (i.marked (get_or shown k 0)).0 (read_is c.loop-place.marks.items (get_or shown k 0) c.index.result.now true (omega arith) c.index.ensures c.if-index.true) in
    EachAfter-at (λ before n. ¬ Contains before n) shown k 0 c.loop-place-test.true once here

pub loop-place-preserved : goal.loop-place-preserved
loop-place-preserved c =
    let shown = c.args.shown.now in
    let k = c.loop-place.place in
    let marks = c.loop-place.marks.items in
    let n = get_or shown k 0 in
    let i = c.loop-place.invariant in
    let next : take (k + 1) shown ≡ take k shown ++ n ∷ [] = take_more shown k 0 c.loop-place-test.true in
    let below = c.requires k 0 c.loop-place-test.true in
    let size = i.size in
    record {
      size = length-set marks n true ∙ i.size;
      once = subst EachOnce (sym next) (EachAfter-push (λ before m. ¬ Contains before m) (take k shown) n i.once (λ h.
          let here = (i.marked n).1 h in
          let not = read_is marks n c.index.result.now false (omega arith) c.index.ensures c.if-index.false in
          cc));
      marked = subst (λ xs. (m : ℕ) → IsIn (set marks n true) m ↔ Contains xs m) (sym next) (members-set marks n (take k shown) (omega arith) i.marked);
    }

pub returns-clause-marked : goal.returns-clause-marked
returns-clause-marked c =
    let shown = c.args.shown.now in
    subst (λ (xs : List ℕ). (n : ℕ) → IsIn c.loop-place.marks.items n ↔ Contains xs n) (take_all c.loop-place.place shown c.loop-place-test.false) c.loop-place.invariant.marked
