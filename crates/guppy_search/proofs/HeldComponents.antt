-- A plain resolve holds each component that it touches.
use Rattle.std.proofs.Common.{Bool, true, List}
use Rattle.guppy_search.specs.declared.ix.direction.DependencyDirection.{DependencyDirection}
use Rattle.guppy_search.specs.declared.ix.direction.DependencyDirection.TheVariants.{Forward, Reverse}
use Rattle.guppy_search.specs.declared.graph_core.link.Link.{Link}
use Rattle.guppy_search.specs.Reach.{LinkStep, IsPlainResolve}
use Rattle.guppy_search.specs.Walked.{HoldsComponents}
use Rattle.guppy_search.proofs.Walks.{walk_on, walk_back, step_back}

-- a plain resolve holds each component that it touches
pub plain_resolve_holds : {E : Type 0} (d : DependencyDirection) (links : List (Link E)) (initials set : List Bool) → IsPlainResolve d links initials set → HoldsComponents links set
plain_resolve_holds Forward links initials set is x y h both =
    let r = (is x).0 h in
    (is y).1 (r.0, r.1, walk_on r.2 both.0)
plain_resolve_holds Reverse links initials set is x y h both =
    let r = (is x).0 h in
    (is y).1 (r.0, r.1, walk_on r.2 (walk_back (LinkStep Forward links) (LinkStep Reverse links) (step_back (λ _. true) links) both.1))
