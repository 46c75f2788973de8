-- Blocks one behind the other.
use Rattle.std.proofs.Common.{◌≡◌, ◌↔◌, ℕ, suc, zero, ◌+◌, ◌-◌, ◌<◌, ◌≤◌, true, List, [], ◌∷◌, length, get_or, drop, refl, sym, ap, ◌∙◌, subst, arith, inl, inr, Some, eqb}
use Rattle.std.specs.Prelude.{slice_get, slice_index}
use Rattle.std.specs.List.{concat, slice_range}
use Rattle.std.proofs.Math.Dec.{ltb}
use Rattle.std.proofs.lemmas.Bool.{cases_lt, cases_eq, cases_order, eqb-true, eq-eqb, lt-ltb, ltb-true}
use Rattle.std.proofs.lemmas.List.{length-drop, length-take-le, get_or_default}
use Rattle.std.proofs.lemmas.Option.{slice_get_within}
use Rattle.guppy_search.specs.Reach.{Mutual}
use Rattle.guppy_core.specs.Listing.{Stands, Precedes, IsOnce, IsListing}
use Rattle.guppy_core.specs.Order.{IsOrder}
use Rattle.guppy_core.specs.Sccs.{AreSccs, AreNumbered, InOneBlock, InLargeBlock, IsCut, parts, parts_from}
use Rattle.guppy_core.proofs.Listings.{at_joined, joined_left, joined_right, left_precedes, right_precedes, across_precedes, never_both}
use Rattle.guppy_core.proofs.Lengths.{length_of_all}

-- who stands in a block stands among all
pub block_in_all : (blocks : List (List ℕ)) (c : ℕ) (b : List ℕ) (x : ℕ) → slice_get blocks c ≡ Some b → Stands b x → Stands (concat blocks) x
block_in_all [] c b x h s = absurd (cc)
block_in_all (a ∷ blocks) zero b x h s =
    let e : a ≡ b = cc in
    let t : Stands a x = subst (λ z. Stands z x) (sym e) s in
    (t.0, joined_left a (concat blocks) t.0 x t.1)
block_in_all (a ∷ blocks) (suc c) b x h s = joined_right a (concat blocks) x (block_in_all blocks c b x h s)

-- and the other way round
pub all_in_block : (blocks : List (List ℕ)) (i x : ℕ) → slice_get (concat blocks) i ≡ Some x → (c : ℕ) × (b : List ℕ) × (slice_get blocks c ≡ Some b) × Stands b x
all_in_block [] i x h = absurd (cc)
all_in_block (a ∷ blocks) i x h = elim (at_joined a (concat blocks) i x h) [
  | inl p ↦ (0, a, refl, (i, p))
  | inr p ↦ let r = all_in_block blocks p.0 x p.1 in (suc r.0, r.1, r.2, r.3)
]

-- how one stands before another: in an earlier block, or before it in the same one
pub data Placed (blocks : List (List ℕ)) (x y : ℕ) : Type 0 where
  earlier : (c d : ℕ) (a b : List ℕ) → c < d → slice_get blocks c ≡ Some a → slice_get blocks d ≡ Some b → Stands a x → Stands b y → Placed blocks x y
  within : (c k l : ℕ) (b : List ℕ) → k < l → slice_get blocks c ≡ Some b → slice_get b k ≡ Some x → slice_get b l ≡ Some y → Placed blocks x y

later : (a : List ℕ) (blocks : List (List ℕ)) (x y : ℕ) → Placed blocks x y → Placed (a ∷ blocks) x y
later a blocks x y p = elim p [
  | earlier c d p q less h k s t ↦ earlier (suc c) (suc d) p q (omega arith) h k s t
  | within c k l b less h s t ↦ within (suc c) k l b less h s t
]

-- who stands before another among all does so by their blocks
pub all_placed : (blocks : List (List ℕ)) (i j x y : ℕ) → slice_get (concat blocks) i ≡ Some x → slice_get (concat blocks) j ≡ Some y → i < j → Placed blocks x y
all_placed [] i j x y h k less = absurd (cc)
all_placed (a ∷ blocks) i j x y h k less =
    elim (at_joined a (concat blocks) i x h) [
      | inl p ↦ elim (at_joined a (concat blocks) j y k) [
        | inl q ↦ within 0 i j a less refl p q
        | inr q ↦ let r = all_in_block blocks q.0 y q.1 in earlier 0 (suc r.0) a r.1 (omega arith) refl r.2 (i, p) r.3
      ]
      | inr p ↦ elim (at_joined a (concat blocks) j y k) [
        | inl q ↦ absurd (let w = slice_get_within a j y q in let e = p.2 in omega arith)
        | inr q ↦ later a blocks x y (all_placed blocks p.0 q.0 x y p.1 q.1 (let e = p.2 in let f = q.2 in omega arith))
      ]
    ]

-- who stands in an earlier block stands before
pub earlier_precedes : (blocks : List (List ℕ)) (c d : ℕ) (a b : List ℕ) (x y : ℕ) → c < d → slice_get blocks c ≡ Some a → slice_get blocks d ≡ Some b → Stands a x → Stands b y → Precedes (concat blocks) x y
earlier_precedes [] c d a b x y less h k s t = absurd (cc)
earlier_precedes (e ∷ blocks) c zero a b x y less h k s t = absurd (omega arith)
earlier_precedes (e ∷ blocks) zero (suc d) a b x y less h k s t =
    let same : e ≡ a = cc in
    across_precedes e (concat blocks) x y (subst (λ z. Stands z x) (sym same) s) (block_in_all blocks d b y k t)
earlier_precedes (e ∷ blocks) (suc c) (suc d) a b x y less h k s t = right_precedes e (concat blocks) x y (earlier_precedes blocks c d a b x y (omega arith) h k s t)

-- who stands before another in a block does so among all
pub within_precedes : (blocks : List (List ℕ)) (c : ℕ) (b : List ℕ) (x y : ℕ) → slice_get blocks c ≡ Some b → Precedes b x y → Precedes (concat blocks) x y
within_precedes [] c b x y h p = absurd (cc)
within_precedes (e ∷ blocks) zero b x y h p =
    let same : e ≡ b = cc in
    left_precedes e (concat blocks) x y (subst (λ z. Precedes z x y) (sym same) p)
within_precedes (e ∷ blocks) (suc c) b x y h p = right_precedes e (concat blocks) x y (within_precedes blocks c b x y h p)

-- blocks that have each number below n in one of them, and in none twice, have it once
module _ (n : ℕ) (blocks : List (List ℕ))
    (below : (c : ℕ) (b : List ℕ) (x : ℕ) → slice_get blocks c ≡ Some b → Stands b x → x < n)
    (there : (x : ℕ) → x < n → (c : ℕ) × (b : List ℕ) × (slice_get blocks c ≡ Some b) × Stands b x)
    (alone : (c d : ℕ) (a b : List ℕ) (x : ℕ) → slice_get blocks c ≡ Some a → slice_get blocks d ≡ Some b → Stands a x → Stands b x → c ≡ d)
    (never : (c : ℕ) (b : List ℕ) (x : ℕ) → slice_get blocks c ≡ Some b → Precedes b x x → ⊥) where
  not_before_itself : (x : ℕ) → Placed blocks x x → ⊥
  not_before_itself x p = elim p as (λ _. ⊥) [
    | earlier c d a b less h k u v ↦ absurd (let e = alone c d a b x h k u v in omega arith)
    | within c k l b less h u v ↦ never c b x h (k, l, less, u, v)
  ]

  all_once : IsOnce (concat blocks)
  all_once i j x h k = elim (cases_order i j) [
    | inl e ↦ e
    | inr o ↦ elim o [
      | inl less ↦ absurd (not_before_itself x (all_placed blocks i j x x h k less))
      | inr more ↦ absurd (not_before_itself x (all_placed blocks j i x x k h more))
    ]
  ]

  all_below : (i x : ℕ) → slice_get (concat blocks) i ≡ Some x → x < n
  all_below i x h = let r = all_in_block blocks i x h in below r.0 r.1 x r.2 r.3

  all_there : (x : ℕ) → x < n → Stands (concat blocks) x
  all_there x l = let r = there x l in block_in_all blocks r.0 r.1 x r.2 r.3

  -- the blocks one behind the other list all positions
  pub all_listed : IsListing n (concat blocks)
  all_listed = record { count = length_of_all n (concat blocks) all_once all_below all_there; once = all_once; below = all_below; all = all_there }

module _ (R : ℕ → ℕ → Type 0) (n : ℕ) (index : List ℕ) (blocks : List (List ℕ)) (s : AreSccs R n index blocks) where
  -- who stands in a block is below n
  pub sccs_below : (c : ℕ) (b : List ℕ) (x : ℕ) → slice_get blocks c ≡ Some b → Stands b x → x < n
  sccs_below c b x h u = let t = block_in_all blocks c b x h u in s.listing.below t.0 x t.1

  -- each position stands in a block
  pub sccs_cover : (x : ℕ) → x < n → (c : ℕ) × (b : List ℕ) × (slice_get blocks c ≡ Some b) × Stands b x
  sccs_cover x l = let t = s.listing.all x l in all_in_block blocks t.0 x t.1

  -- nobody stands before itself
  not_before : (x : ℕ) → Precedes (concat blocks) x x → ⊥
  not_before x p = never_both (concat blocks) s.listing.once x x p p

  -- and in one block alone
  pub sccs_apart : (c d : ℕ) (a b : List ℕ) (x : ℕ) → slice_get blocks c ≡ Some a → slice_get blocks d ≡ Some b → Stands a x → Stands b x → c ≡ d
  sccs_apart c d a b x h k u v = elim (cases_order c d) [
    | inl e ↦ e
    | inr o ↦ elim o [
      | inl less ↦ absurd (not_before x (earlier_precedes blocks c d a b x x less h k u v))
      | inr more ↦ absurd (not_before x (earlier_precedes blocks d c b a x x more k h v u))
    ]
  ]

  -- in a block each stands once
  pub sccs_once : (c : ℕ) (b : List ℕ) (i j x : ℕ) → slice_get blocks c ≡ Some b → slice_get b i ≡ Some x → slice_get b j ≡ Some x → i ≡ j
  sccs_once c b i j x h u v = elim (cases_order i j) [
    | inl e ↦ e
    | inr o ↦ elim o [
      | inl less ↦ absurd (not_before x (within_precedes blocks c b x x h (i, j, less, u, v)))
      | inr more ↦ absurd (not_before x (within_precedes blocks c b x x h (j, i, more, v, u)))
    ]
  ]

  -- the block of both is that of each
  pub sccs_one : (c d : ℕ) (a b : List ℕ) (x y : ℕ) → slice_get blocks c ≡ Some a → slice_get blocks d ≡ Some b → Stands a x → Stands b y → InOneBlock blocks x y → c ≡ d
  sccs_one c d a b x y h k u v i = sccs_apart c i.0 a i.1 x h i.2 u i.3 ∙ sym (sccs_apart d i.0 b i.1 y k i.2 v i.4)

  -- who is in mutual reach with one of a block stands there, and no other
  pub sccs_members : (c : ℕ) (b : List ℕ) (x y : ℕ) → slice_get blocks c ≡ Some b → Stands b x → Stands b y ↔ ((y < n) × Mutual R x y)
  sccs_members c b x y h u = (
    λ v. (sccs_below c b y h v, (s.classes x y (sccs_below c b x h u) (sccs_below c b y h v)).0 (c, b, h, u, v)),
    λ w.
        let i = (s.classes x y (sccs_below c b x h u) w.0).1 w.1 in
        let e : i.0 ≡ c = sccs_apart i.0 c i.1 b x i.2 h i.3 u in
        let at : slice_get blocks c ≡ Some i.1 = subst (λ k. slice_get blocks k ≡ Some i.1) e i.2 in
        let b_is : i.1 ≡ b = cc in
        subst (λ z. Stands z y) b_is i.4,
  )

  -- who stands before another stands in no later block
  block_order : (c d : ℕ) (a b : List ℕ) (x y : ℕ) → slice_get blocks c ≡ Some a → slice_get blocks d ≡ Some b → Stands a x → Stands b y → Precedes (concat blocks) x y → c ≤ d
  block_order c d a b x y h k u v p = elim (cases_lt d c) [
    | inl less ↦ absurd (never_both (concat blocks) s.listing.once x y p (earlier_precedes blocks d c b a y x less k h v u))
    | inr ge ↦ omega arith
  ]

  -- a step between different blocks leads to a later one
  pub sccs_steps : (c d : ℕ) (a b : List ℕ) (x y : ℕ) → slice_get blocks c ≡ Some a → slice_get blocks d ≡ Some b → Stands a x → Stands b y → R x y → (c ≡ d → ⊥) → c < d
  sccs_steps c d a b x y h k u v r differ =
      let p = s.steps x y (sccs_below c a x h u) (sccs_below d b y k v) r (λ i. differ (sccs_one c d a b x y h k u v i)) in
      let low = block_order c d a b x y h k u v p in
      elim (cases_eq c d) [
        | inl e ↦ absurd (differ e)
        | inr ne ↦ omega arith
      ]

  -- the components one behind the other are an order
  pub sccs_order : IsOrder R n index (concat blocks)
  sccs_order = record {
    listing = s.listing;
    together = λ x y z p q both.
        let bx = all_in_block blocks p.0 x p.3 in
        let by = all_in_block blocks p.1 y p.4 in
        let bz = all_in_block blocks q.1 z q.4 in
        let lx = s.listing.below p.0 x p.3 in
        let ly = s.listing.below p.1 y p.4 in
        let lz = s.listing.below q.1 z q.4 in
        let same = sccs_one bx.0 bz.0 bx.1 bz.1 x z bx.2 bz.2 bx.3 bz.3 ((s.classes x z lx lz).1 both) in
        let low = block_order bx.0 by.0 bx.1 by.1 x y bx.2 by.2 bx.3 by.3 p in
        let high = block_order by.0 bz.0 by.1 bz.1 y z by.2 bz.2 by.3 bz.3 q in
        let e : by.0 ≡ bx.0 = omega arith in
        let at : slice_get blocks bx.0 ≡ Some by.1 = subst (λ c. slice_get blocks c ≡ Some by.1) e by.2 in
        let b_is : by.1 ≡ bx.1 = let a = bx.2 in cc in
        (s.classes x y lx ly).0 (bx.0, bx.1, bx.2, bx.3, subst (λ b. Stands b y) b_is by.3);
    forward = λ x y lx ly r none. s.steps x y lx ly r (λ i. none ((s.classes x y lx ly).0 i).1);
    inside = λ x y p both. elim (all_placed blocks p.0 p.1 x y p.3 p.4 p.2) [
      | earlier c d a b less h k u v ↦ absurd (let e = sccs_one c d a b x y h k u v ((s.classes x y (sccs_below c a x h u) (sccs_below d b y k v)).1 both) in omega arith)
      | within c k l b less h u v ↦ s.keeps c b h x y (k, l, less, u, v)
    ];
  }

-- which block a position is in
module _ (blocks : List (List ℕ)) (numbers : List ℕ) (m : AreNumbered blocks numbers) where
  -- positions are in one block where their numbers are equal
  pub same_block : (x y v w : ℕ) → x < length numbers → y < length numbers → v ≡ get_or numbers x v → w ≡ get_or numbers y w → (eqb v w ≡ true) ↔ InOneBlock blocks x y
  same_block x y v w h k v_is w_is =
      let e = v_is ∙ get_or_default numbers x v 0 h in
      let f = w_is ∙ get_or_default numbers y w 0 k in (
        λ t.
            let same : get_or numbers y 0 ≡ get_or numbers x 0 = sym f ∙ (sym (eqb-true v w t) ∙ e) in
            let bx = m.stands x h in
            let by = m.stands y k in
            let at : slice_get blocks (get_or numbers x 0) ≡ Some by.0 = subst (λ c. slice_get blocks c ≡ Some by.0) same by.1 in
            let b_is : by.0 ≡ bx.0 = let a = bx.1 in cc in
            (get_or numbers x 0, bx.0, bx.1, bx.2, subst (λ b. Stands b y) b_is by.2),
        λ i. eq-eqb v w (e ∙ (m.only i.0 i.1 x i.2 i.3 ∙ (sym (m.only i.0 i.1 y i.2 i.4) ∙ sym f))),
      )

-- the part with a number
part_from_at : {X : Type 0} (xs : List X) (a : ℕ) (bounds : List ℕ) (c : ℕ) (b : List X) → slice_get (parts_from a bounds xs) c ≡ Some b → (c < length bounds) × (b ≡ slice_range xs (get_or (a ∷ bounds) c 0) (get_or bounds c 0))
part_from_at xs a [] c b h = absurd (cc)
part_from_at xs a (e ∷ bounds) zero b h = (omega arith, cc)
part_from_at xs a (e ∷ bounds) (suc c) b h = let r = part_from_at xs e bounds c b h in (let l = r.0 in omega arith, r.1)

-- a part goes from one bound to the next
pub part_at : {X : Type 0} (xs : List X) (bounds : List ℕ) (c : ℕ) (b : List X) → slice_get (parts bounds xs) c ≡ Some b → (c + 1 < length bounds) × (b ≡ slice_range xs (slice_index bounds c) (slice_index bounds (c + 1)))
part_at xs [] c b h = absurd (cc)
part_at xs (a ∷ bounds) c b h =
    let r = part_from_at xs a bounds c b h in
    let e : suc c ≡ c + 1 = omega arith in
    (let l = r.0 in omega arith, subst (λ k. b ≡ slice_range xs (get_or (a ∷ bounds) c 0) (get_or (a ∷ bounds) k 0)) e r.1)

length_range : {X : Type 0} (xs : List X) (a b : ℕ) → a ≤ b → b ≤ length xs → length (slice_range xs a b) ≡ b - a
length_range xs a b h k = let e = length-drop a xs in length-take-le (b - a) (drop a xs) (omega arith)

module _ (xs bounds numbers : List ℕ) (cut : IsCut xs bounds) (m : AreNumbered (parts bounds xs) numbers) (x v : ℕ) (within : x < length numbers) (v_is : v ≡ get_or numbers x v) where
  number_is : get_or numbers x 0 ≡ v
  number_is = sym (v_is ∙ get_or_default numbers x v 0 within)

  block_at : (b : List ℕ) × (slice_get (parts bounds xs) v ≡ Some b) × Stands b x
  block_at = let s = m.stands x within in (s.0, subst (λ c. slice_get (parts bounds xs) c ≡ Some s.0) number_is s.1, s.2)

  -- the number of a position has a bound after it
  pub next_bound : v + 1 < length bounds
  next_bound = let s = block_at in (part_at xs bounds v s.0 s.1).0

  -- which is not below it
  pub bounds_up : slice_index bounds v ≤ slice_index bounds (v + 1)
  bounds_up = (cut.climb v next_bound).0

  block_length : (b : List ℕ) → slice_get (parts bounds xs) v ≡ Some b → length b ≡ slice_index bounds (v + 1) - slice_index bounds v
  block_length b h =
      let p = part_at xs bounds v b h in
      let c = cut.climb v next_bound in
      ap length p.1 ∙ length_range xs (slice_index bounds v) (slice_index bounds (v + 1)) c.0 c.1

  -- a position is in a large block where the two bounds lie more than one apart
  pub large_block : (hi lo : ℕ) → hi ≡ slice_index bounds (v + 1) → lo ≡ slice_index bounds v → (ltb 1 (hi - lo) ≡ true) ↔ InLargeBlock (parts bounds xs) x
  large_block hi lo hi_is lo_is = (
    λ t.
        let s = block_at in
        let len = block_length s.0 s.1 in
        let less = ltb-true 1 (hi - lo) t in
        (v, s.0, s.1, s.2, omega arith),
    λ i.
        let c_is : i.0 ≡ v = sym (m.only i.0 i.1 x i.2 i.3) ∙ number_is in
        let at : slice_get (parts bounds xs) v ≡ Some i.1 = subst (λ c. slice_get (parts bounds xs) c ≡ Some i.1) c_is i.2 in
        let len = block_length i.1 at in
        let more = i.4 in
        lt-ltb 1 (hi - lo) (omega arith),
  )
