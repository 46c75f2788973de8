use Rattle.std.proofs.Common.{◌≡◌, ◌∙◌, false, length, sym, ap, arith}
use Rattle.std.proofs.Math.ListN.{length-replicate}
use Rattle.guppy_search.proofs.Exits.{if_ok}
use Rattle.guppy_search.proofs.dfs.cache.ReachCache.new.Goals as goal

pub returns-in_err-empty : goal.returns-in_err-empty
returns-in_err-empty g c = if_ok _ _ c.from_residual.ensures.0

pub returns-in_err-empty-2 : goal.returns-in_err-empty-2
returns-in_err-empty-2 g c = if_ok _ _ c.from_residual-in_err-empty-2.ensures.0

pub returns-in_err-with_capacity : goal.returns-in_err-with_capacity
returns-in_err-with_capacity g c = if_ok _ _ c.from_residual-in_err-with_capacity.ensures.0

pub invariant_of-result : goal.invariant_of-result
invariant_of-result g c =
    let initials : length c.in_ok-empty.field-0 ≡ length c.args.graph.now.nodes = ap length c.in_ok-empty.ensures ∙ (length-replicate _ false ∙ c.node_count.ensures.count) in
    let set : length c.in_ok-empty-2.field-0 ≡ length c.args.graph.now.nodes = ap length c.in_ok-empty-2.ensures ∙ (length-replicate _ false ∙ c.node_count-2.ensures.count) in
    let count = c.node_count-3.ensures.count in
    let room = c.in_ok-with_capacity.ensures.capacity in
    (initials ∙ sym set, omega arith)

pub returns : goal.returns
returns g c = ap length c.in_ok-empty-2.ensures ∙ (length-replicate _ false ∙ c.node_count-2.ensures.count)
