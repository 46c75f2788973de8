use Rattle.std.proofs.Common.{sym, subst, ℕ, ◌<◌, [], map, length, arith, Some}
use Rattle.std.specs.List.{Contains}
use Rattle.std.proofs.lemmas.List.Elements.{All-cons, Contains-push}
use Rattle.std.proofs.lemmas.Iterator.Adapters.{YieldsList-from_once}
use Rattle.guppy_search.specs.IxSet.{IsIn}
use Rattle.guppy_graph.specs.Ids.{ix_position}
use Rattle.guppy_graph.specs.Accepted.{distinct_ids}
use Rattle.guppy_graph.proofs.PackageIds.{within_of}
use Rattle.guppy_graph.proofs.Runs.{holds_along, drained}
use Rattle.guppy_graph.proofs.Lists.{only_one}
use Rattle.guppy_graph.proofs.Dependence.{depends_by_reach}
use Rattle.guppy_graph.proofs.graph.RecordGraph.depends_on.Goals as goal

pub from_ixs-requires-clause-below : goal.from_ixs-requires-clause-below
from_ixs-requires-clause-below c =
    let packages = c.args.self.now.packages in
    let below : ix_position c.in_ok-from.from < length packages = within_of packages c.args.a.now _ c.in_ok-from.ensures.first in
    rw c.package_count.ensures (holds_along _ (λ ix. ix_position ix < length packages) _ _
    (YieldsList-from_once (Some c.in_ok-from.from) c.once.ensures.item)
    (All-cons (λ ix. ix_position ix < length packages) c.in_ok-from.from [] below (λ k d h. absurd (omega arith))))

pub contains-requires : goal.contains-requires
contains-requires c =
    rw c.in_ok-reached.ensures.count (subst (λ g. c.in_ok-from.to.0 < length g.packages) (sym c.self.view_is) (within_of _ c.args.b.now _ c.in_ok-from.ensures.second))

pub returns-clause-answer : goal.returns-clause-answer
returns-clause-answer c =
    let members = c.in_ok-initials.ensures.members in
    let one = drained _ _ _ _ (YieldsList-from_once (Some c.in_ok-from.from) c.once.ensures.item) members.1 in
    let p = ix_position c.in_ok-from.from in
    let starts = λ (s : ℕ). subst (λ xs. (IsIn c.in_ok-initials.initials s → Contains (map ix_position xs) s) × (Contains (map ix_position xs) s → IsIn c.in_ok-initials.initials s)) one (members.2 s) in
    rw (c.contains.ensures) (depends_by_reach c.args.self.now (c.in_ok-from.ensures.graph.accepted distinct_ids) c.args.a.now c.args.b.now p (ix_position c.in_ok-from.to) c.in_ok-from.ensures.first c.in_ok-from.ensures.second c.in_ok-initials.initials c.in_ok-reached.reached
    (λ s h. only_one s p ((starts s).0 h))
    ((starts p).1 (Contains-push [] p))
    (rw (← c.self.view_is) c.in_ok-reached.ensures.reached))
