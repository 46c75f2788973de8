-- Where steps lead round to no other position.
use Rattle.std.proofs.Common.{◌≡◌, ◌⊎◌, ℕ, suc, zero, ◌+◌, ◌<◌, ◌≤◌, Bool, true, List, [], ◌∷◌, length, refl, sym, ap, ◌∙◌, subst, inl, inr, arith, Some}
use Rattle.std.specs.Prelude.{slice_get}
use Rattle.std.specs.List.{concat}
use Rattle.std.proofs.lemmas.Bool.{cases_lt, cases_eq, cases_order, cases_Bool}
use Rattle.std.proofs.lemmas.Option.{slice_get_within}
use Rattle.guppy_search.specs.declared.ix.direction.DependencyDirection.TheVariants.{Forward}
use Rattle.guppy_search.specs.declared.graph_core.link.Link.{Link}
use Rattle.guppy_search.specs.Reach.{Step, Walk, here}
use Rattle.guppy_core.specs.Listing.{Stands, IsOnce, IsListing}
use Rattle.guppy_core.specs.Topo.{IsSteppedTo, FromRoot, IsTopo, HasNoCycle, LeadsOn}
use Rattle.guppy_core.specs.Sccs.{AreSccs}
use Rattle.guppy_search.proofs.Walks.{walk_from}
use Rattle.guppy_core.proofs.Lengths.{length_of_once}
use Rattle.guppy_core.proofs.Blocks.{earlier_precedes, within_precedes, sccs_cover, sccs_steps}
use Rattle.guppy_core.proofs.Listings.{never_both}

some_link : {A : Type 0} (xs : List A) (i : ℕ) → i < length xs → (v : A) × (slice_get xs i ≡ Some v)
some_link [] i h = absurd (omega arith)
some_link (x ∷ xs) zero h = (x, refl)
some_link (x ∷ xs) (suc i) h = some_link xs i (omega arith)

-- Whether a kept link leads to x from another position is found link by link.
module _ {E : Type 0} (keep : E → Bool) (links : List (Link E)) (x : ℕ) where
  abbrev NoneBelow : ℕ → Type 0
  NoneBelow k = (a : ℕ) (t : Step Forward keep links a x) → t.number < k → a ≡ x

  none_more : (k : ℕ) (l : Link E) → slice_get links k ≡ Some l → (keep l.edge ≡ true → l.to ≡ x → l.from ≡ x) → NoneBelow k → NoneBelow (k + 1)
  none_more k l found one none a t h = elim (cases_lt t.number k) [
    | inl less ↦ none a t less
    | inr ge ↦
        let e : t.number ≡ k = omega arith in
        let found' : slice_get links k ≡ Some t.link = subst (λ z. slice_get links z ≡ Some t.link) e t.found in
        let same : l ≡ t.link = cc in
        sym t.near ∙ (ap (λ (z : Link E). z.from) (sym same) ∙ one (ap (λ (z : Link E). keep z.edge) same ∙ t.kept) (ap (λ (z : Link E). z.to) same ∙ t.far))
  ]

  entered_below : (k : ℕ) → k ≤ length links → IsSteppedTo (Step Forward keep links) x ⊎ NoneBelow k
  entered_below zero h = inr (λ a t l. absurd (omega arith))
  entered_below (suc k) h =
      let v = some_link links k (omega arith) in
      let l = v.0 in
      let e : k + 1 ≡ suc k = omega arith in
      elim (entered_below k (omega arith)) [
        | inl i ↦ inl i
        | inr none ↦ elim (cases_Bool (keep l.edge)) [
          | inl kept ↦ elim (cases_eq l.to x) [
            | inl to ↦ elim (cases_eq l.from x) [
              | inl from ↦ inr (subst NoneBelow e (none_more k l v.1 (λ _ _. from) none))
              | inr other ↦ inl (l.from, (record { number = k; link = l; found = v.1; near = refl; far = to; kept = kept }, other))
            ]
            | inr away ↦ inr (subst NoneBelow e (none_more k l v.1 (λ _ to. absurd (away to)) none))
          ]
          | inr drops ↦ inr (subst NoneBelow e (none_more k l v.1 (λ kept _. absurd (cc)) none))
        ]
      ]

  -- a position is stepped to from another one, or by none but itself
  pub entered_or_not : IsSteppedTo (Step Forward keep links) x ⊎ ((a : ℕ) → Step Forward keep links a x → a ≡ x)
  entered_or_not = elim (entered_below (length links) (omega arith)) [
    | inl i ↦ inl i
    | inr none ↦ inr (λ a t. none a t (slice_get_within links t.number t.link t.found))
  ]

-- Back from position to position, each another one, one comes to a root.
module _ (R : ℕ → ℕ → Type 0) (n : ℕ) (entered : (x : ℕ) → IsSteppedTo R x ⊎ ((a : ℕ) → R a x → a ≡ x)) (below : (a x : ℕ) → R a x → a < n) (none : HasNoCycle R) where
  once_more : (a : ℕ) (xs : List ℕ) → IsOnce xs → (Stands xs a → ⊥) → IsOnce (a ∷ xs)
  once_more a xs once new zero zero x h k = refl
  once_more a xs once new zero (suc j) x h k = absurd (let e : a ≡ x = cc in new (j, subst (λ z. slice_get xs j ≡ Some z) (sym e) k))
  once_more a xs once new (suc i) zero x h k = absurd (let e : a ≡ x = cc in new (i, subst (λ z. slice_get xs i ≡ Some z) (sym e) h))
  once_more a xs once new (suc i) (suc j) x h k = ap suc (once i j x h k)

  low_more : (a p : ℕ) (rest : List ℕ) → ((i x : ℕ) → slice_get (p ∷ rest) i ≡ Some x → x < n) → a < n → (i x : ℕ) → slice_get (a ∷ p ∷ rest) i ≡ Some x → x < n
  low_more a p rest low l zero x h = let e : a ≡ x = cc in omega arith
  low_more a p rest low l (suc i) x h = low i x h

  walks_more : (a p : ℕ) (rest : List ℕ) → ((x : ℕ) → Stands (p ∷ rest) x → Walk R p x) → R a p → (x : ℕ) → Stands (a ∷ p ∷ rest) x → Walk R a x
  walks_more a p rest walks r x (zero, h) = let e : a ≡ x = cc in subst (λ z. Walk R a z) e here
  walks_more a p rest walks r x (suc i, h) = walk_from r (walks x (i, h))

  module _ (x : ℕ) where
    one_alone : IsOnce (x ∷ [])
    one_alone zero zero y p q = refl
    one_alone zero (suc j) y p q = absurd (cc)
    one_alone (suc i) j y p q = absurd (cc)

    low_alone : x < n → (i y : ℕ) → slice_get (x ∷ []) i ≡ Some y → y < n
    low_alone h zero y p = let e : x ≡ y = cc in omega arith
    low_alone h (suc i) y p = absurd (cc)

    walks_alone : (y : ℕ) → Stands (x ∷ []) y → Walk R x y
    walks_alone y (zero, p) = let e : x ≡ y = cc in subst (λ z. Walk R x z) e here
    walks_alone y (suc i, p) = absurd (cc)

  back_to_root : (fuel p : ℕ) (rest : List ℕ) → length (p ∷ rest) + fuel ≡ n + 1 → IsOnce (p ∷ rest) → ((i x : ℕ) → slice_get (p ∷ rest) i ≡ Some x → x < n) → ((x : ℕ) → Stands (p ∷ rest) x → Walk R p x) → (x : ℕ) → Stands (p ∷ rest) x → FromRoot R n x
  back_to_root zero p rest e once low walks x s = absurd (let few = length_of_once n (p ∷ rest) once low in omega arith)
  back_to_root (suc fuel) p rest e once low walks x s = elim (entered p) [
    | inl i ↦
        let a = i.0 in
        let new : Stands (p ∷ rest) a → ⊥ = λ t. i.1.1 (none a p i.1.0 (walks a t)) in
        back_to_root fuel a (p ∷ rest) (omega arith) (once_more a (p ∷ rest) once new)
        (λ j y h. low_more a p rest low (below a p i.1.0) j y h)
        (λ y t. walks_more a p rest walks i.1.0 y t)
        x (suc s.0, s.1)
    | inr root ↦ (p, (low 0 p refl, root), walks x s)
  ]

  -- so each position is led to by a root
  pub from_a_root : (x : ℕ) → x < n → FromRoot R n x
  from_a_root x h = back_to_root n x [] (omega arith) (one_alone x) (low_alone x h) (walks_alone x) x (0, refl)

  -- each step to another position leads on in a topological order
  pub topo_leads_on : (order : List ℕ) → IsTopo R n order → LeadsOn R order
  topo_leads_on order t x y r other = t.steps x y (from_a_root x (below x y r)) r (λ w. other (none x y r w))

-- Each step of the kind that the index is by leads on in the list of the components too, where these steps lead round to no other position.
pub sccs_lead_on : (R K : ℕ → ℕ → Type 0) → ((x y : ℕ) → K x y → R x y) → (n : ℕ) (index : List ℕ) (blocks : List (List ℕ)) → IsListing n index → LeadsOn K index → AreSccs R n index blocks → LeadsOn K (concat blocks)
sccs_lead_on R K kept n index blocks listing leads s x y r other =
    let p = leads x y r other in
    let bx = sccs_cover R n index blocks s x (listing.below p.0 x p.3) in
    let by = sccs_cover R n index blocks s y (listing.below p.1 y p.4) in
    elim (cases_eq bx.0 by.0) [
      | inl e ↦
          let at : slice_get blocks by.0 ≡ Some bx.1 = subst (λ c. slice_get blocks c ≡ Some bx.1) e bx.2 in
          let b_is : bx.1 ≡ by.1 = let a = by.2 in cc in
          let u : Stands by.1 x = subst (λ b. Stands b x) b_is bx.3 in
          let v = by.3 in
          elim (cases_order u.0 v.0) [
            | inl same ↦ absurd (let f = subst (λ k. slice_get by.1 k ≡ Some x) same u.1 in let h = v.1 in other (let is : x ≡ y = cc in is))
            | inr o ↦ elim o [
              | inl less ↦ within_precedes blocks by.0 by.1 x y by.2 (u.0, v.0, less, u.1, v.1)
              | inr more ↦ absurd (never_both index listing.once x y p (s.keeps by.0 by.1 by.2 y x (v.0, u.0, more, v.1, u.1)))
            ]
          ]
      | inr differ ↦ earlier_precedes blocks bx.0 by.0 bx.1 by.1 x y (sccs_steps R n index blocks s bx.0 by.0 bx.1 by.1 x y bx.2 by.2 bx.3 by.3 (kept x y r) differ) bx.2 by.2 bx.3 by.3
    ]
