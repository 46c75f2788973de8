use Rattle.std.proofs.Common.{ℕ, List, ◌++◌, take, map}
use Rattle.guppy_closure.specs.declared.clause.Clause.{Clause}
use Rattle.guppy_closure.specs.Named.{StandsAt, AreSame}
use Rattle.guppy_platforms.specs.HostClauses.{link_clause}
use Rattle.guppy_platforms.proofs.host.add_links.Given as goal

abbrev pub invariant-loop-link : goal.invariant-loop-link
invariant-loop-link l = (before : List (Clause (List ℕ)))
    → AreSame (StandsAt (map (λ id. id.now) l.initial.ids.keys)) before l.initial.clauses.items
    → AreSame (StandsAt (map (λ id. id.now) l.ids.keys)) (before ++ map link_clause (take l.link-index l.links)) l.clauses.items
