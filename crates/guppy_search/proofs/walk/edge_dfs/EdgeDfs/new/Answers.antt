use Rattle.std.proofs.Common.{List, sym, subst}
use Rattle.guppy_search.proofs.Exits.{if_ok}
use Rattle.guppy_search.specs.declared.graph_core.link.Link.{Link}
use Rattle.guppy_search.specs.IxSet.{IsIn}
use Rattle.guppy_search.specs.Walked.{AreWalked}
use Rattle.guppy_search.proofs.Ends.{all_ends, numbers_of-ends, walked_below}
use Rattle.guppy_search.proofs.walk.edge_dfs.EdgeDfs.new.Goals as goal

pub invariant_of-result : goal.invariant_of-result
invariant_of-result g c = rw c.into_iter.ensures.rest (walked_below _ _ _ _ _ c.in_ok-numbers.ensures)

pub returns-clause-walked : goal.returns-clause-walked
returns-clause-walked g c =
    let links : List (Link g.row.G-Edge.Denot) = c.args.graph.now.links in
    subst (λ ns. AreWalked c.args.direction links c.args.set.now (IsIn c.args.initials.now) ns) (sym (numbers_of-ends links _))
    (rw c.into_iter.ensures.rest c.in_ok-numbers.ensures)

pub returns-clause-ends : goal.returns-clause-ends
returns-clause-ends g c =
    let links : List (Link g.row.G-Edge.Denot) = c.args.graph.now.links in
    all_ends links _ (rw c.into_iter.ensures.rest (walked_below links _ _ _ _ c.in_ok-numbers.ensures))

pub returns-in_err-numbers : goal.returns-in_err-numbers
returns-in_err-numbers g c = let none = c.from_residual.ensures.0 in record { walked = if_ok _ _ none; ends = if_ok _ _ none }
