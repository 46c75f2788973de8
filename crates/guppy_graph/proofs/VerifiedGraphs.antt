-- Verified graphs, and their faults.
use Rattle.std.proofs.Common.{◌≡◌, ◌∙◌, sym, subst, refl, arith, inl, inr, ⊎_elim, ℕ, zero, suc, ◌+◌, ◌<◌, Bool, true, List, [], ◌∷◌, length, take, map, All, get_or, Some, slice_get}
use Rattle.std.specs.Prelude.{◌==◌, codes, Ok, IsSomeAnd}
use Rattle.std.specs.List.{filter_map}
use Rattle.std.proofs.lemmas.Bool.{cases_Bool, eq-eqb}
use Rattle.std.proofs.lemmas.List.Elements.{All-nil, All-cons, All-head, All-tail, All-weaker}
use Rattle.std.proofs.lemmas.List.Sorted.{All-permutation, IsPermutation-sym}
use Rattle.std.proofs.lemmas.Option.{slice_get-get_or, slice_get_within}
use Rattle.semver.specs.Identifiers.{comparator_view}
use Rattle.semver.specs.Parse.{req_of}
use Rattle.semver.specs.declared.Comparator.{Comparator}
use Rattle.semver.specs.declared.VersionReq.{VersionReq}
use Rattle.semver.proofs.OnLiterals.{semver_on_literals}
use Rattle.guppy_search.specs.declared.graph_core.link.Link.{Link}
use Rattle.guppy_search.specs.declared.ix.direction.DependencyDirection.TheVariants.{Forward}
use Rattle.guppy_search.specs.Links.{EndsBelow, links_at, numbers_where}
use Rattle.guppy_data.specs.declared.records.BuildTargetRecord.{BuildTargetRecord}
use Rattle.guppy_data.specs.declared.records.LinkRecord.{LinkRecord}
use Rattle.guppy_data.specs.declared.texts.fault.VerifyFault.{VerifyFault}
use Rattle.guppy_graph.specs.First.{IsFirstWithout}
use Rattle.guppy_graph.specs.Targets.{AreTargetsById}
use Rattle.guppy_graph.specs.Graph.{GraphData, IsPackageGraph}
use Rattle.guppy_graph.specs.Verified.{IsStar, HasVersion, HasSection, HasFittingKind, AreKindsFitting, IsFirstMisfit, IsVerified, IsLinkVerified, IsLinkFault, IsTargetFault, IsLeavingLinkFault, IsPackageVerified, IsFirstVerifyFault}
use Rattle.guppy_graph.proofs.Lists.{All-slice_get, some_at, some_of, of_some, in_some, not_all}

star_read : req_of (codes "*") ≡ Ok []
unfolding semver_on_literals
star_read = refl

none_seen : (cs : List Comparator) → [] ≡ map comparator_view cs → cs ≡ []
none_seen [] h = refl
none_seen (c ∷ cs) h = absurd (cc)

-- the requirement read from `*` is the one without comparators
pub star_is_empty : (req : VersionReq) → IsStar req → req.comparators.items ≡ []
star_is_empty req star =
    let seen = sym star_read ∙ star in
    none_seen req.comparators.items (cc)

pub empty_is_star : (req : VersionReq) → req.comparators.items ≡ [] → IsStar req
empty_is_star req none = rw none star_read

module _ {A : Type 0} (P : A → Type 0) (items : List A) where
  -- what holds of each item holds of what is read at the places
  pub all_read : (places : List ℕ) → All (λ p. IsSomeAnd (slice_get items p) P) places → All P (filter_map (slice_get items) places)
  all_read [] all = All-nil P
  all_read (p ∷ ps) all =
      let t = some_of (slice_get items p) P (All-head (λ q. IsSomeAnd (slice_get items q) P) p ps all) in
      rw t.1 (All-cons P t.0 (filter_map (slice_get items) ps) t.2 (all_read ps (All-tail (λ q. IsSomeAnd (slice_get items q) P) p ps all)))

  -- the first place where an item without it is read, counted among the items that are read
  pub first_read : (places : List ℕ) (k : ℕ) → All (λ p. p < length items) places → IsFirstWithout (λ p. IsSomeAnd (slice_get items p) P) places k → IsFirstWithout P (filter_map (slice_get items) places) k
  first_read [] k below first = absurd (let h = first.found in cc)
  first_read (p ∷ ps) zero below first =
      let t = some_at items p (All-head (λ q. q < length items) p ps below) in
      let same : p ≡ first.item = let h = first.found in cc in
      rw t.1 (record {
        item = t.0;
        found = refl;
        lacks = λ has. first.lacks (subst (λ q. IsSomeAnd (slice_get items q) P) same (of_some (slice_get items p) P t.0 t.1 has));
        before = All-nil P;
      })
  first_read (p ∷ ps) (suc k) below first =
      let t = some_of (slice_get items p) P (All-head (λ q. IsSomeAnd (slice_get items q) P) p (take k ps) first.before) in
      let rest = first_read ps k (All-tail (λ q. q < length items) p ps below)
      (record { item = first.item; found = first.found; lacks = first.lacks; before = All-tail (λ q. IsSomeAnd (slice_get items q) P) p (take k ps) first.before }) in
      rw t.1 (record {
        item = rest.item;
        found = rest.found;
        lacks = rest.lacks;
        before = All-cons P t.0 (take k (filter_map (slice_get items) ps)) t.2 rest.before;
      })

module _ {A : Type 0} (p : A → Bool) where
  numbers_below : (i : ℕ) (xs : List A) → All (λ n. n < i + length xs) (numbers_where p i xs)
  numbers_below i [] = All-nil (λ n. n < i + 0)
  numbers_below i (x ∷ xs) =
      let B : ℕ → Type 0 = λ n. n < i + suc (length xs) in
      let rest : All B (numbers_where p (i + 1) xs) =
      All-weaker (λ n. n < (i + 1) + length xs) B (λ n h. omega arith) (numbers_where p (i + 1) xs) (numbers_below (i + 1) xs) in
      elim (cases_Bool (p x)) [
        | inl yes_ ↦ rw yes_ (All-cons B i (numbers_where p (i + 1) xs) (omega arith) rest)
        | inr no_ ↦ rw no_ rest
      ]

  numbers_hold : (P : ℕ → Type 0) (i : ℕ) (xs : List A) → All P (numbers_where p i xs) → (k : ℕ) (x : A) → slice_get xs k ≡ Some x → p x ≡ true → P (i + k)
  numbers_hold P i [] all k x found passes = absurd (cc)
  numbers_hold P i (y ∷ ys) all zero x found passes =
      let same : x ≡ y = cc in
      let here : p y ≡ true = subst (λ z. p z ≡ true) same passes in
      let at : i ≡ i + 0 = omega arith in
      subst P at (All-head P i (numbers_where p (i + 1) ys) (rw here at all))
  numbers_hold P i (y ∷ ys) all (suc k) x found passes =
      let rest : All P (numbers_where p (i + 1) ys) = elim (cases_Bool (p y)) [
        | inl yes_ ↦ All-tail P i (numbers_where p (i + 1) ys) (rw yes_ at all)
        | inr no_ ↦ rw no_ at all
      ] in
      let at : (i + 1) + k ≡ i + suc k = omega arith in
      subst P at (numbers_hold P (i + 1) ys rest k x found passes)

module _ (links : List (Link LinkRecord)) (p : ℕ) where
  -- the numbers of the links that leave a package are numbers of links
  pub leaving_below : All (λ n. n < length links) (links_at Forward links p)
  leaving_below = All-weaker (λ n. n < 0 + length links) (λ n. n < length links) (λ n h. omega arith) (links_at Forward links p) (numbers_below (λ l. l.from == p) 0 links)

  -- what holds of all links that leave the package holds of each one
  pub leaving_hold : (P : ℕ → Type 0) → All P (links_at Forward links p) → (n : ℕ) (l : Link LinkRecord) → slice_get links n ≡ Some l → l.from ≡ p → P n
  leaving_hold P all n l found leaves =
      let at : 0 + n ≡ n = omega arith in
      subst P at (numbers_hold (λ m. m.from == p) P 0 links all n l found (eq-eqb l.from p leaves))

-- where each target in the order of the IDs fits, each target does
pub listed_fit : (targets listed : List BuildTargetRecord) → AreTargetsById targets listed → All HasFittingKind listed → All HasFittingKind targets
listed_fit targets listed by_id all = All-permutation HasFittingKind listed targets (IsPermutation-sym targets listed by_id.permutation) all

all_by_place : {A : Type 0} (P : A → Type 0) (xs : List A) → ((k : ℕ) (x : A) → slice_get xs k ≡ Some x → P x) → All P xs
all_by_place P xs each k d within = each k (get_or xs k d) (slice_get-get_or xs k d within)

module _ (g : GraphData) where
  -- packages that break no rule are those of a verified graph
  pub verified_of_packages : IsPackageGraph g → ((p : ℕ) → p < length g.packages → IsPackageVerified g p) → IsVerified g
  verified_of_packages is each =
      let link : (n : ℕ) (l : Link LinkRecord) → slice_get g.links n ≡ Some l → IsLinkVerified g n =
      λ n l found. leaving_hold g.links l.from (IsLinkVerified g) (each l.from (All-slice_get (EndsBelow (length g.packages)) g.links n l is.graph.ends found).0).links n l found refl in
      record {
        versions = all_by_place (HasVersion g.packages) g.links (λ n l found. in_some (slice_get g.links n) (HasVersion g.packages) l found (link n l found).0);
        sections = all_by_place (λ l. HasSection l.edge) g.links (λ n l found. in_some (slice_get g.links n) (λ m. HasSection m.edge) l found (link n l found).1);
        kinds = all_by_place AreKindsFitting g.packages (λ p r found. in_some (slice_get g.packages p) AreKindsFitting r found (each p (slice_get_within g.packages p r found)).kinds);
      }

  -- a link with a fault breaks a rule
  pub fault_lacks : (n : ℕ) (fault : VerifyFault) → IsLinkFault g n fault → IsLinkVerified g n → ⊥
  fault_lacks n fault wrong verified = ⊎_elim (λ version. version.1 verified.0) (λ section. section.2 verified.1) wrong

  link_of_verified : IsVerified g → (n : ℕ) → n < length g.links → IsLinkVerified g n
  link_of_verified v n within =
      let l = some_at g.links n within in (
        of_some (slice_get g.links n) (HasVersion g.packages) l.0 l.1 (All-slice_get (HasVersion g.packages) g.links n l.0 v.versions l.1),
        of_some (slice_get g.links n) (λ m. HasSection m.edge) l.0 l.1 (All-slice_get (λ m. HasSection m.edge) g.links n l.0 v.sections l.1),
      )

  no_target_fault : IsVerified g → (p : ℕ) (fault : VerifyFault) → IsTargetFault g p fault → ⊥
  no_target_fault v p fault wrong =
      let r = some_of (slice_get g.packages p) (λ q. IsFirstMisfit q wrong.0) wrong.2 in
      let misfit = r.2 in
      let fit : All HasFittingKind misfit.listed = All-permutation HasFittingKind r.0.build_targets.items misfit.listed misfit.by_id.permutation (All-slice_get AreKindsFitting g.packages p r.0 v.kinds r.1) in
      not_all HasFittingKind misfit.listed wrong.0 misfit.first fit

  no_link_fault : IsVerified g → (p : ℕ) (fault : VerifyFault) → IsLeavingLinkFault g p fault → ⊥
  no_link_fault v p fault wrong =
      wrong.first.lacks (link_of_verified v wrong.first.item
      (All-slice_get (λ n. n < length g.links) (links_at Forward g.links p) wrong.place wrong.first.item (leaving_below g.links p) wrong.first.found))

  -- a verified graph has no fault
  pub no_fault : IsVerified g → (fault : VerifyFault) → IsFirstVerifyFault g fault → ⊥
  no_fault v fault first = ⊎_elim (no_target_fault v first.position fault) (λ wrong. no_link_fault v first.position fault wrong.1) first.tells
