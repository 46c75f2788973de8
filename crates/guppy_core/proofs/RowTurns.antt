-- The row of a position that is taken link by link.
use Rattle.std.proofs.Common.{◌≡◌, ◌⊎◌, ℕ, ◌+◌, ◌<◌, ◌≤◌, Bool, true, List, [], ◌∷◌, ◌++◌, length, get_or, refl, ◌∙◌, arith, inl, inr, ⊎_elim, subst, Some}
use Rattle.std.specs.Prelude.{Contains, slice_get}
use Rattle.guppy_search.specs.declared.ix.direction.DependencyDirection.{DependencyDirection}
use Rattle.guppy_search.specs.declared.graph_core.link.Link.{Link}
use Rattle.guppy_search.specs.Links.{near_end, far_end, links_at}
use Rattle.guppy_search.proofs.Rows.{IsRowLink, row_links, row_has}
use Rattle.std.proofs.lemmas.List.{get_or_default}
use Rattle.std.proofs.lemmas.Bool.{cases_lt}
use Rattle.std.proofs.lemmas.List.Elements.{Contains-push}
use Rattle.guppy_search.specs.Graph.{GraphValue}
use Rattle.guppy_search.specs.Reach.{Step, step, ReachedFrom}
use Rattle.guppy_search.specs.IxSet.{has}
use Rattle.guppy_core.specs.Mark.{Marks}
use Rattle.guppy_core.proofs.StackSearch.{Reaching, fuel, marked, opened, finished}
use Rattle.guppy_search.proofs.Members.{IsIn-below}

-- no position is open
pub record Between (R : ℕ → ℕ → Type 0) (IsStart : ℕ → Type 0) (limit : ℕ) (seen : List Bool) (stack : List ℕ) : Type 0 where
  pub searching : Reaching R IsStart (λ _. ⊥) limit seen stack
  pub starts : (q : ℕ) → IsStart q → has seen q ≡ true

-- x is open, and the first i links of its row were taken
pub record Within {N E : Type 0} (d : DependencyDirection) (graph : GraphValue N E) (IsStart : ℕ → Type 0) (x : ℕ) (row : List ℕ) (i most : ℕ) (seen : List Bool) (stack : List ℕ) : Type 0 where
  pub searching : Reaching (Step d (λ _. true) graph.links) IsStart (λ q. q ≡ x) (length graph.nodes) seen stack
  pub starts : (q : ℕ) → IsStart q → has seen q ≡ true
  pub reached : has seen x ≡ true
  pub row_is : row ≡ links_at d graph.links x
  pub taken : (k : ℕ) (l : Link E) → k < i → slice_get graph.links (get_or row k 0) ≡ Some l → has seen (far_end d l) ≡ true
  pub less : fuel seen stack ≤ most

below_or_at : (q i : ℕ) → q < i + 1 → (q < i) ⊎ (q ≡ i)
below_or_at q i h = ⊎_elim (λ a. inl a) (λ b. inr (omega arith)) (cases_lt q i)

-- what was popped is a position
pub popped_below : (R : ℕ → ℕ → Type 0) (IsStart : ℕ → Type 0) (limit : ℕ) (seen : List Bool) (stack stack' : List ℕ) (x : ℕ) → Between R IsStart limit seen stack → stack ≡ stack' ++ x ∷ [] → x < limit
popped_below R IsStart limit seen stack stack' x b e =
    let top : Contains stack x = rw e (Contains-push stack' x) in
    let within = IsIn-below seen x (b.searching.stacked x top) in
    let same = b.searching.limit_is in
    omega arith

module _ {N E : Type 0} (d : DependencyDirection) (graph : GraphValue N E) (IsStart : ℕ → Type 0) where
  -- the row of x begins
  pub within_first : (x : ℕ) (leaving : List ℕ) (seen : List Bool) (stack stack' : List ℕ) → Between (Step d (λ _. true) graph.links) IsStart (length graph.nodes) seen stack → stack ≡ stack' ++ x ∷ [] → leaving ≡ links_at d graph.links x → Within d graph IsStart x leaving 0 (fuel seen stack') seen stack'
  within_first x leaving seen stack stack' b e row_is =
      let was : Reaching (Step d (λ _. true) graph.links) IsStart (λ _. ⊥) (length graph.nodes) seen (stack' ++ x ∷ []) = rw (← e) b.searching in
      record {
        searching = opened (Step d (λ _. true) graph.links) IsStart (length graph.nodes) seen stack' x was;
        starts = b.starts;
        reached = was.stacked x (Contains-push stack' x);
        row_is = row_is;
        taken = λ k l h _. absurd (omega arith);
        less = omega arith;
      }

  module _ (x : ℕ) (row : List ℕ) (i most : ℕ) (seen : List Bool) (stack : List ℕ) (w : Within d graph IsStart x row i most seen stack) where
    -- the link with the number at k
    pub link_in_row : (k : ℕ) → k < length row → IsRowLink d graph.links x (get_or row k 0)
    link_in_row k h =
        let h' : k < length (links_at d graph.links x) = rw (← w.row_is) h in
        rw w.row_is (row_links d graph.links x k h')

    -- one more link was taken
    pub within_more : i < length row → (l : Link E) → slice_get graph.links (get_or row i 0) ≡ Some l → far_end d l < length graph.nodes → (seen' : List Bool) (stack' : List ℕ) → Marks (far_end d l) seen stack seen' stack' → Within d graph IsStart x row (i + 1) most seen' stack'
    within_more h l found below seen' stack' m =
        let at = link_in_row i h in
        let same : at.link ≡ l = let f = at.found in cc in
        let near : near_end d l ≡ x = subst (λ z. near_end d z ≡ x) same at.near in
        let from = w.searching.sound x w.reached in
        let reached : ReachedFrom (Step d (λ _. true) graph.links) IsStart (far_end d l) =
        (from.0, from.1, step from.2 (record { number = get_or row i 0; link = l; found = found; near = near; far = refl; kept = refl })) in
        let after = marked (Step d (λ _. true) graph.links) IsStart (λ q. q ≡ x) (length graph.nodes) (far_end d l) seen stack w.searching below reached seen' stack' m in
        record {
          searching = after.searching;
          starts = λ q start. after.grows q (w.starts q start);
          reached = after.grows x w.reached;
          row_is = w.row_is;
          taken = λ k l' k_in found'.
              let cases = below_or_at k i k_in in
              ⊎_elim
              (λ b. after.grows _ (w.taken k l' b found'))
              (λ e. let f : slice_get graph.links (get_or row i 0) ≡ Some l' = subst (λ z. slice_get graph.links (get_or row z 0) ≡ Some l') e found' in
              let s : l ≡ l' = cc in
              subst (λ z. has seen' (far_end d z) ≡ true) s after.now_in)
              cases;
          less = let a = after.less in let b = w.less in omega arith;
        }

    -- the whole row was taken
    pub between_again : length row ≤ i → Between (Step d (λ _. true) graph.links) IsStart (length graph.nodes) seen stack
    between_again all = record {
      searching = finished (Step d (λ _. true) graph.links) IsStart (length graph.nodes) seen stack x w.searching (λ r t.
          let c : Contains row t.number = rw w.row_is (row_has d graph.links x t.number t.link t.found t.near) in
          let same : get_or row c.0 0 ≡ t.number = get_or_default row c.0 0 t.number c.1 ∙ c.2 in
          let found : slice_get graph.links (get_or row c.0 0) ≡ Some t.link = rw same t.found in
          let within : c.0 < i = let k = c.1 in omega arith in
          subst (λ z. has seen z ≡ true) t.far (w.taken c.0 t.link within found));
      starts = w.starts;
    }

-- the far end of a link is a position
