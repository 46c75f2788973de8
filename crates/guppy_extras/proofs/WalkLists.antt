-- Walks as lists of links, and walks as relations.
use Rattle.std.proofs.Common.{◌≡◌, ℕ, List, [], ◌∷◌, ◌++◌, refl, subst, Some}
use Rattle.std.specs.Prelude.{slice_get}
use Rattle.guppy_search.specs.declared.ix.direction.DependencyDirection.TheVariants.{Forward}
use Rattle.guppy_search.specs.declared.graph_core.link.Link.{Link}
use Rattle.guppy_search.specs.Reach.{LinkStep, Walk, here, step}
use Rattle.guppy_search.proofs.Walks.{walk_from as step_from}
use Rattle.guppy_graph.proofs.Lists.{some_of, of_some}
use Rattle.guppy_extras.specs.Walk.{IsWalk}

module _ {E : Type 0} (links : List (Link E)) where
  -- where a list of links leads, a walk leads
  pub reached : (a b : ℕ) (ns : List ℕ) → IsWalk links a b ns → Walk (LinkStep Forward links) a b
  reached a b [] same = subst (Walk (LinkStep Forward links) a) same here
  reached a b (n ∷ ns) walk =
      let one = some_of (slice_get links n) (λ (l : Link E). (l.from ≡ a) × IsWalk links l.to b ns) walk in
      step_from (record { number = n; link = one.0; found = one.1; near = one.2.0; far = refl; kept = refl }) (reached one.0.to b ns one.2.1)

  -- a walk and a link from its end are a walk
  walk_to : (a b c n : ℕ) (ns : List ℕ) (l : Link E) → slice_get links n ≡ Some l → l.from ≡ b → l.to ≡ c → IsWalk links a b ns → IsWalk links a c (ns ++ n ∷ [])
  walk_to a b c n [] l found from to walk = of_some (slice_get links n) (λ (k : Link E). (k.from ≡ a) × (k.to ≡ c)) l found (cc, to)
  walk_to a b c n (m ∷ ns) l found from to walk =
      let one = some_of (slice_get links m) (λ (k : Link E). (k.from ≡ a) × IsWalk links k.to b ns) walk in
      of_some (slice_get links m) (λ (k : Link E). (k.from ≡ a) × IsWalk links k.to c (ns ++ n ∷ [])) one.0 one.1 (one.2.0, walk_to one.0.to b c n ns l found from to one.2.1)

  -- where a walk leads, a list of links leads
  pub walk_of : {a b : ℕ} → Walk (LinkStep Forward links) a b → (ns : List ℕ) × IsWalk links a b ns
  walk_of here = ([], refl)
  walk_of (step {a} {b} {c} w s) = (let before = walk_of w in (before.0 ++ s.number ∷ [], walk_to a b c s.number before.0 s.link s.found s.near s.far before.1))
