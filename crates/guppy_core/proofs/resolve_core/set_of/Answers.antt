use Rattle.std.proofs.Common.{◌↔◌, ℕ, ◌<◌, ◌∙◌, length, ap, map, subst, rules}
use Rattle.std.specs.Prelude.{Contains}
use Rattle.std.specs.Slice.Iter.{iter_rest}
use Rattle.std.proofs.iter.Yields.{Copied-Drains}
use Rattle.guppy_search.proofs.Exits.{if_ok}
use Rattle.guppy_search.specs.IxSet.{IsIn}
use Rattle.guppy_search.proofs.IteratorItems.{holds_copied}
use Rattle.guppy_core.proofs.resolve_core.set_of.Goals as goal

pub from_ixs-requires-clause-below : goal.from_ixs-requires-clause-below
from_ixs-requires-clause-below g c =
    rw c.node_count.ensures.count
    (holds_copied (λ x. g.G.Ix.IndexType.index_of x < length c.args.graph.now.nodes) c.args.ixs.now c.copied.result (search rules) c.requires)

pub returns-clause-members : goal.returns-clause-members
returns-clause-members g c =
    let s = c.in_ok-set.ensures.members in
    let drained = Copied-Drains c.copied.result s.0 s.1 ∙ (ap iter_rest c.copied.ensures.source ∙ c.iter.ensures.rest) in
    subst (λ xs. (p : ℕ) → IsIn c.in_ok-set.set p ↔ Contains (map g.G.Ix.IndexType.index_of xs) p) drained s.2

pub returns-in_err-set : goal.returns-in_err-set
returns-in_err-set g c = let none = c.from_residual.ensures.0 in record { count = if_ok _ _ none; members = if_ok _ _ none }
