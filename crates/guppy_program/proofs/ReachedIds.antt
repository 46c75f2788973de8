-- What a query from a list of IDs reaches.
use Rattle.std.proofs.Common.{◌≡◌, ◌↔◌, ℕ, zero, suc, arith, Bool, List, [], ◌∷◌, sym, subst}
use Rattle.std.specs.Prelude.{All}
use Rattle.guppy_search.specs.declared.ix.direction.DependencyDirection.{DependencyDirection}
use Rattle.guppy_search.specs.IxSet.{IsIn}
use Rattle.guppy_search.specs.Reach.{LinkStep, ReachedFrom}
use Rattle.guppy_graph.specs.Ids.{HasId}
use Rattle.guppy_graph.specs.Graph.{GraphData}
use Rattle.guppy.specs.Query.{IsSetOfIds, IncludesId, SetData}
use Rattle.guppy_program.specs.Answer.{IsReached}

-- what is reached from the named packages
pub included_is_reached : (direction : DependencyDirection) (set : SetData) (g : GraphData) (ids : List (List ℕ)) (initials : List Bool) → IsSetOfIds g.packages ids initials → set.graph ≡ g
    → ((p : ℕ) → IsIn set.included p ↔ ReachedFrom (LinkStep direction g.links) (IsIn initials) p)
    → (id : List ℕ) → IncludesId set id ↔ IsReached direction g ids id
included_is_reached direction set g ids initials named same reaches id = (
  λ h. let from = (reaches h.0).0 h.2 in (h.0, subst (λ v. HasId v.packages id h.0) same h.1, (from.0, (named.members from.0).0 from.1, from.2)),
  λ h. let from = h.2 in (h.0, subst (λ v. HasId v.packages id h.0) (sym same) h.1, (reaches h.0).1 (from.0, (named.members from.0).1 from.1, from.2)),
)

pub two_hold : {X : Type 0} (P : X → Type 0) (x y : X) → P x → P y → All P (x ∷ y ∷ [])
two_hold P x y px py zero d within = px
two_hold P x y px py (suc zero) d within = py
two_hold P x y px py (suc (suc k)) d within = absurd (omega arith)
