-- Which packages depend on which, by the positions of their IDs.
use Rattle.std.proofs.Common.{◌≡◌, ◌∙◌, refl, subst, ℕ, List, length, Bool, true}
use Rattle.std.specs.Prelude.{Option, Some, None, is_some, MatchOption}
use Rattle.guppy_search.specs.IxSet.{IsIn}
use Rattle.guppy_search.specs.Reach.{LinkStep, Walk, ReachedFrom}
use Rattle.guppy_search.specs.declared.ix.direction.DependencyDirection.TheVariants.{Forward}
use Rattle.guppy_search.specs.Graph.{NoLink, LinkIs}
use Rattle.guppy_graph.specs.Ids.{HasId, DistinctBelow}
use Rattle.guppy_graph.specs.Graph.{GraphData}
use Rattle.guppy_graph.specs.Depends.{DependsOn, DirectlyDependsOn}
use Rattle.guppy_graph.proofs.PackageIds.{position_is}

module _ (g : GraphData) (distinct : DistinctBelow g.packages (length g.packages)) (a b : List ℕ) (p q : ℕ) (has_a : HasId g.packages a p) (has_b : HasId g.packages b q) (initials reached : List Bool) where
  -- what the package of one ID reaches
  pub depends_by_reach : ((s : ℕ) → IsIn initials s → s ≡ p) → IsIn initials p → ((t : ℕ) → (IsIn reached t → ReachedFrom (LinkStep Forward g.links) (IsIn initials) t) × (ReachedFrom (LinkStep Forward g.links) (IsIn initials) t → IsIn reached t)) → (IsIn reached q → DependsOn g a b) × (DependsOn g a b → IsIn reached q)
  depends_by_reach only there reaches = (
    λ h. let from = (reaches q).0 h in (p, q, has_a, has_b, subst (λ s. Walk (LinkStep Forward g.links) s q) (only from.0 from.1) from.2),
    λ d. (reaches q).1 (p, there, subst (λ s. Walk (LinkStep Forward g.links) s q) (position_is g.packages distinct a _ p d.2 has_a) (subst (λ t. Walk (LinkStep Forward g.links) d.0 t) (position_is g.packages distinct b _ q d.3 has_b) d.4)),
  )

module _ (g : GraphData) (distinct : DistinctBelow g.packages (length g.packages)) (a b : List ℕ) (p q : ℕ) (has_a : HasId g.packages a p) (has_b : HasId g.packages b q) where
  -- one package depends directly on another exactly where a link between their positions is found
  pub directly_by_link : (number : Option ℕ) → MatchOption number (NoLink g.links p q) (LinkIs g.links p q) → (is_some number ≡ true → DirectlyDependsOn g a b) × (DirectlyDependsOn g a b → is_some number ≡ true)
  directly_by_link (Some n) l = (
    λ _. (p, q, has_a, has_b, record { number = n; link = l.0; found = l.1; near = l.2; far = l.3; kept = refl }),
    λ _. refl,
  )
  directly_by_link None none = (
    λ h. absurd (cc),
    λ d. absurd (none d.4.number (
      d.4.link,
      d.4.found,
      d.4.near ∙ position_is g.packages distinct a d.0 p d.2 has_a,
      d.4.far ∙ position_is g.packages distinct b d.1 q d.3 has_b,
    )),
  )
