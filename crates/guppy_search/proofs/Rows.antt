-- The numbers of the links that leave a position.
use Rattle.std.proofs.Common.{◌≡◌, ℕ, ◌<◌, ◌≤◌, List, length, get_or, sym, ◌∙◌, arith, subst, Some, zero-add}
use Rattle.std.specs.Prelude.{slice_get, Contains, ◌==◌, All}
use Rattle.std.proofs.lemmas.List.{get_or_default}
use Rattle.std.proofs.lemmas.Option.{slice_get_within}
use Rattle.std.proofs.lemmas.Bool.{eqb-true, eq-eqb}
use Rattle.guppy_search.specs.declared.ix.direction.DependencyDirection.{DependencyDirection}
use Rattle.guppy_search.specs.declared.ix.direction.DependencyDirection.TheVariants.{Forward, Reverse}
use Rattle.guppy_search.specs.declared.graph_core.link.Link.{Link}
use Rattle.guppy_search.specs.Links.{near_end, links_at, EndsBelow}
use Rattle.guppy_search.specs.Graph.{GraphValue, IsGraph}
use Rattle.guppy_search.specs.Pairs.{SinglesBelow}
use Rattle.guppy_search.proofs.Numbers.{number_passes, numbers_have}

-- the number of a link with its near end at x
pub record IsRowLink {E : Type 0} (d : DependencyDirection) (links : List (Link E)) (x n : ℕ) : Type 0 where
  pub link : Link E
  pub found : slice_get links n ≡ Some link
  pub near : near_end d link ≡ x

module _ {E : Type 0} (d : DependencyDirection) (links : List (Link E)) (x : ℕ) where
  -- each number in the row of x is that of a link at x
  pub row_links : (k : ℕ) → k < length (links_at d links x) → IsRowLink d links x (get_or (links_at d links x) k 0)
  row_links k h =
      let one = number_passes (λ l. near_end d l == x) 0 links k h in
      let same : get_or (links_at d links x) k 0 ≡ one.place = one.number_is ∙ zero-add one.place in
      record { link = one.value; found = rw same one.found; near = eqb-true _ _ one.passed }

  -- the number of each link at x is in its row
  pub row_has : (n : ℕ) (l : Link E) → slice_get links n ≡ Some l → near_end d l ≡ x → Contains (links_at d links x) n
  row_has n l found near = numbers_have (λ l. near_end d l == x) 0 links n n l (sym (zero-add n)) found (eq-eqb _ _ near)

  -- the row has numbers of links alone
  pub row_within : (row : List ℕ) → row ≡ links_at d links x → All (λ n. n < length links) row
  row_within row same = rw same (λ k d h.
      let at = row_links k h in
      rw (get_or_default _ k d 0 h) (slice_get_within links _ at.link at.found))

pub graph_of : {N E : Type 0} (nodes : List N) (links : List (Link E)) → length nodes ≤ 4294967295 → length links ≤ 4294967295 → All (EndsBelow (length nodes)) links → SinglesBelow links (length links) → IsGraph (let g : GraphValue N E = record { nodes = nodes; links = links } in g)
graph_of nodes links few_nodes few_links ends singles = record {
  few_nodes = omega arith;
  few_links = omega arith;
  ends = ends;
  single = λ i j a b at at' same. singles i j a b (slice_get_within links i a at) (slice_get_within links j b at') at at' same;
}

pub near_end_below : {E : Type 0} (d : DependencyDirection) (links : List (Link E)) (count i : ℕ) (x : Link E) → All (EndsBelow count) links → i < length links → x ≡ get_or links i x → near_end d x < count
near_end_below {E} Forward links count i x ends within is = subst (λ (z : Link E). z.from < count) (sym is) (ends i x within).0
near_end_below {E} Reverse links count i x ends within is = subst (λ (z : Link E). z.to < count) (sym is) (ends i x within).1
