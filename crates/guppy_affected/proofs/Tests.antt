-- Which packages are tested with those of a set.
use Rattle.std.proofs.Common.{◌≡◌, ◌∙◌, ◌⊎◌, inl, inr, ⊎_elim, refl, sym, ap, subst, ℕ, zero, suc, ◌<◌, Bool, true, false, List, [], ◌∷◌, length, map, replicate, Some, slice_set, arith}
use Rattle.std.specs.Prelude.{◌↔◌, slice_get}
use Rattle.guppy_search.specs.declared.graph_core.link.Link.{Link}
use Rattle.guppy_search.specs.declared.ix.direction.DependencyDirection.TheVariants.{Forward}
use Rattle.guppy_search.specs.IxSet.{IsIn}
use Rattle.guppy_search.specs.Reach.{LinkStep, Walk, here, step}
use Rattle.guppy_core.specs.Listing.{Stands}
use Rattle.guppy_data.specs.declared.records.LinkRecord.{LinkRecord}
use Rattle.guppy_graph.specs.Graph.{GraphData}
use Rattle.guppy_graph.specs.Ordered.{FirmStep}
use Rattle.guppy.specs.declared.link.PackageLink.{PackageLink}
use Rattle.guppy.specs.declared.metadata.PackageMetadata.{PackageMetadata}
use Rattle.guppy.specs.Query.{QueryData, SetData}
use Rattle.guppy.specs.Views.{PackageData, LinkData, OfLink, link_data, package_in, graph_of, package_position}
use Rattle.guppy.specs.Visitors.{query_link}
use Rattle.guppy_affected.specs.Affected.{IsTestedWith}
use Rattle.guppy_affected.specs.Tested.{AreBuiltFrom, AreWithDependents, AreTestedWith}

-- what holds of a link that a query's visitor is shown holds of the one with its number
pub at_link : (query : QueryData) (link : PackageLink) (n : ℕ) (l : Link LinkRecord) (P : Link LinkRecord → Type 0) → link_data link ≡ query_link query n → slice_get query.graph.links n ≡ Some l → OfLink link P → P l
at_link query link n l P same found of =
    let here = ap (λ (d : LinkData). slice_get d.graph.links d.number) same ∙ found in
    rw here at of

-- no position is in a set of none
pub none_in : (n p : ℕ) → IsIn (replicate n false) p → ⊥
none_in zero p h = absurd (cc)
none_in (suc n) zero h = absurd (cc)
none_in (suc n) (suc p) h = none_in n p h

-- a set with one more position
pub in_more : (set : List Bool) (q p : ℕ) → q < length set → IsIn (slice_set set q true) p ↔ ((q ≡ p) ⊎ IsIn set p)
in_more [] q p below = absurd (omega arith)
in_more (b ∷ set) zero zero below = (λ h. inl refl, λ h. refl)
in_more (b ∷ set) zero (suc p) below = (λ h. inr h, λ h. ⊎_elim (λ e. absurd (cc)) (λ k. k) h)
in_more (b ∷ set) (suc q) zero below = (λ h. inr h, λ h. ⊎_elim (λ e. absurd (cc)) (λ k. k) h)
in_more (b ∷ set) (suc q) (suc p) below =
    let more = in_more set q p (omega arith) in (
      λ h. ⊎_elim (λ e. inl (ap suc e)) (λ k. inr k) (more.0 h),
      λ h. more.1 (⊎_elim (λ e. let same : q ≡ p = cc in inl same) (λ k. inr k) h),
    )

stands_cases : (q : ℕ) (left : List ℕ) (p : ℕ) → Stands (q ∷ left) p → (q ≡ p) ⊎ Stands left p
stands_cases q left p (zero, found) = let same : q ≡ p = cc in inl same
stands_cases q left p (suc i, found) = inr (i, found)

-- the positions that are in and those of the packages that are to come are the set's
pub record AreToCome (graph : GraphData) (set : List Bool) (to_come : List PackageData) (positions : List Bool) : Type 0 where
  pub left : List ℕ
  pub others : to_come ≡ map (package_in graph) left
  pub together : (p : ℕ) → IsIn set p ↔ (IsIn positions p ⊎ Stands left p)

module _ (graph : GraphData) (set : List Bool) where
  pub to_come_all : (n : ℕ) (left : List ℕ) (to_come : List PackageData) → to_come ≡ map (package_in graph) left → ((p : ℕ) → Stands left p ↔ IsIn set p) → AreToCome graph set to_come (replicate n false)
  to_come_all n left to_come is same = record {
    left = left;
    others = is;
    together = λ p. (λ h. inr ((same p).1 h), λ h. ⊎_elim (λ k. absurd (none_in n p k)) (λ s. (same p).0 s) h);
  }

  pub to_come_none : (positions : List Bool) → AreToCome graph set [] positions → (p : ℕ) → IsIn positions p ↔ IsIn set p
  to_come_none positions are p = (λ h. (are.together p).1 (inl h), λ h. ⊎_elim (λ k. k) (λ s. absurd (nothing are.left are.others p s)) ((are.together p).0 h))
    where
      nothing : (left : List ℕ) → [] ≡ map (package_in graph) left → (p : ℕ) → Stands left p → ⊥
      nothing [] e p (i, found) = absurd (cc)
      nothing (q ∷ left) e p s = absurd (cc)

  module _ (seen : PackageData) (rest : List PackageData) (positions : List Bool) where
    first_is : (left : List ℕ) → seen ∷ rest ≡ map (package_in graph) left → (later : List ℕ) × (left ≡ seen.position ∷ later) × (seen ≡ package_in graph seen.position) × (rest ≡ map (package_in graph) later)
    first_is [] e = absurd (cc)
    first_is (p ∷ later) e =
        let seen_is : seen ≡ package_in graph p = cc in
        let at : seen.position ≡ p = ap (λ (s : PackageData). s.position) seen_is in
        let rest_is : rest ≡ map (package_in graph) later = cc in
        (later, ap (λ q. q ∷ later) (sym at), seen_is ∙ ap (package_in graph) (sym at), rest_is)

    module _ (are : AreToCome graph set (seen ∷ rest) positions) where
      pub first_graph : seen.graph ≡ graph
      first_graph = ap (λ (s : PackageData). s.graph) (first_is are.left are.others).2

      pub to_come_later : seen.position < length positions → AreToCome graph set rest (slice_set positions seen.position true)
      to_come_later below =
          let first = first_is are.left are.others in
          record {
            left = first.0;
            others = first.3;
            together = λ p.
                let more = in_more positions seen.position p below in (
                  λ h. ⊎_elim (λ k. inl (more.1 (inr k))) (λ s. ⊎_elim (λ e. inl (more.1 (inl e))) (λ k. inr k) (stands_cases seen.position first.0 p (subst (λ l. Stands l p) first.1 s))) ((are.together p).0 h),
                  λ h. (are.together p).1 (⊎_elim (λ k. ⊎_elim (λ e. inr (subst (λ l. Stands l p) (sym first.1) (zero, ap Some e))) (λ i. inl i) (more.0 k)) (λ s. inr (subst (λ l. Stands l p) (sym first.1) (suc s.0, s.1))) h),
                );
          }

module _ (set built tested : SetData) (same : built.graph ≡ set.graph) (are_built : AreBuiltFrom set built) (both : AreWithDependents built tested) where
  -- the first link of the way is of any kind, and a way over others is one too
  firm_first : (p q : ℕ) → Walk (FirmStep set.graph.links) p q → IsTestedWith set.graph p q
  firm_first p q here = inl refl
  firm_first p q (step {b = b} walk s) = ⊎_elim
      (λ e. inr (q, subst (λ x. LinkStep Forward set.graph.links x q) (sym e) (record { number = s.number; link = s.link; found = s.found; near = s.near; far = s.far; kept = refl }), here))
      (λ (r, first, rest). inr (r, first, step rest s)) (firm_first p b walk)

  pub built_and_dependents : AreTestedWith set tested
  built_and_dependents p = (
    λ h. ⊎_elim (λ k. let from = (are_built p).0 k in (from.0, from.1, firm_first p from.0 from.2))
        (λ (r, inside, first). let from = (are_built r).0 inside in (from.0, from.1, inr (r, subst (λ (g : GraphData). LinkStep Forward g.links p r) same first, from.2))) ((both p).0 h),
    λ (q, inside, way). (both p).1 (⊎_elim (λ e. inl ((are_built p).1 (q, inside, subst (λ x. Walk (FirmStep set.graph.links) x q) (sym e) here)))
        (λ (r, first, walk). inr (r, (are_built r).1 (q, inside, walk), subst (λ (g : GraphData). LinkStep Forward g.links p r) (sym same) first)) way),
  )

-- the position of a package of the graph is below the length of a list with an entry for each package
pub fits : (m : PackageMetadata) (graph : GraphData) (positions : List Bool) → (graph_of m).now ≡ graph → length positions ≡ length graph.packages → package_position m < length positions
fits m graph positions same count =
    let below : package_position m < length (graph_of m).now.packages = m.in_graph in
    let counts : length positions ≡ length (graph_of m).now.packages = count ∙ ap (λ (g : GraphData). length g.packages) (sym same) in
    omega arith
