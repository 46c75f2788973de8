use Rattle.std.proofs.Common.{subst}
use Rattle.guppy_data.specs.Sorted.{KeepsUpTo}
use Rattle.guppy_data.proofs.texts.sorted_set.SortedSet.from_items.Goals as goal

pub returns-clause-kept : goal.returns-clause-kept
returns-clause-kept g c =
    let run = c.in_ok-collect.ensures.runs tt in
    (run.0, run.1, run.2, subst (λ xs. KeepsUpTo g.T.PartialEq.eq xs c.new.result) run.3.0 c.new.ensures.kept)
