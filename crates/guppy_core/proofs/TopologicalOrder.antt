-- The topological order, from what its parts say.
use Rattle.std.proofs.Common.{◌≡◌, ◌↔◌, ℕ, ◌+◌, ◌<◌, Bool, true, List, ◌++◌, length, get_or, reverse, subst, arith, ⊎_elim, Some}
use Rattle.std.specs.Prelude.{slice_get, All, Contains}
use Rattle.std.proofs.lemmas.Option.{slice_get-get_or}
use Rattle.std.proofs.lemmas.List.Elements.{All-contains}
use Rattle.std.proofs.lemmas.Bool.{cases_Bool, cases_order}
use Rattle.guppy_search.specs.Reach.{step}
use Rattle.std.proofs.lemmas.List.{length-reverse}
use Rattle.guppy_search.specs.IxSet.{has}
use Rattle.guppy_core.specs.Finish.{IsFinishList}
use Rattle.guppy_core.specs.Listing.{Stands, IsOnce, IsListing, IsAbsence}
use Rattle.guppy_core.specs.Topo.{IsIndexRoot, FromRoot, IsTopo}
use Rattle.guppy_core.proofs.Listings.{contains_stands, stands_contains, at_reversed, at_joined, joined_left, joined_right, reversed_stands, stands_reversed}
use Rattle.guppy_core.proofs.Lengths.{length_of_all}

-- where someone stands in a reversed list with another after it
pub data Side (F rest : List ℕ) (i x : ℕ) : Type 0 where
  front : (j : ℕ) → slice_get F j ≡ Some x → (i + j) + 1 ≡ length F → Side F rest i x
  back : (j : ℕ) → slice_get rest j ≡ Some x → i ≡ length F + j → Side F rest i x

module _ (R : ℕ → ℕ → Type 0) (n : ℕ) (F rest : List ℕ) (set : List Bool) (IsStart : ℕ → Type 0) (starts : (p : ℕ) → (IsStart p → IsIndexRoot R n p) × (IsIndexRoot R n p → IsStart p)) (f : IsFinishList R IsStart F) (below : (i x : ℕ) → slice_get F i ≡ Some x → x < n) (members : (p : ℕ) → (has set p ≡ true) ↔ Stands (reverse F) p) (a : IsAbsence set n rest) where
  order : List ℕ
  order = reverse F ++ rest

  side : (i x : ℕ) → slice_get (reverse F ++ rest) i ≡ Some x → Side F rest i x
  side i x h =
      ⊎_elim
      (λ l. let r = at_reversed F i x l in front r.0 r.1 r.2)
      (λ r. let len = length-reverse F in back r.0 r.1 (let e = r.2 in omega arith))
      (at_joined (reverse F) rest i x h)

  from_root : (x : ℕ) → Stands F x → FromRoot R n x
  from_root x s = let r = (f.reached x).0 s in (r.0, (starts r.0).0 r.1, r.2)

  finished : (x : ℕ) → FromRoot R n x → Stands F x
  finished x r = (f.reached x).1 (r.0, (starts r.0).1 r.1, r.2)

  -- nobody stands in both lists
  apart : (x : ℕ) → Stands F x → Stands rest x → ⊥
  apart x s t = absurd (let yes_in = (members x).1 (reversed_stands F x s) in let not_in = ((a.members x).0 t).1 in cc)

  module _ (i x : ℕ) (h : slice_get (reverse F ++ rest) i ≡ Some x) where
    in_front : FromRoot R n x → (j : ℕ) × (slice_get F j ≡ Some x) × ((i + j) + 1 ≡ length F)
    in_front r = elim (side i x h) [
      | front j s e ↦ (j, s, e)
      | back j s e ↦ absurd (apart x (finished x r) (j, s))
    ]

    in_back : (FromRoot R n x → ⊥) → (j : ℕ) × (slice_get rest j ≡ Some x) × (i ≡ length F + j)
    in_back r = elim (side i x h) [
      | front j s e ↦ absurd (r (from_root x (j, s)))
      | back j s e ↦ (j, s, e)
    ]

    all_below : x < n
    all_below = elim (side i x h) [
      | front j s e ↦ below j x s
      | back j s e ↦ ((a.members x).0 (j, s)).0
    ]

  once_back : (i j x : ℕ) → slice_get rest i ≡ Some x → slice_get rest j ≡ Some x → i ≡ j
  once_back i j x p q =
      ⊎_elim
      (λ e. e)
      (λ o. ⊎_elim (λ l. absurd (let k = a.ascends i j x x p q l in omega arith)) (λ l. absurd (let k = a.ascends j i x x q p l in omega arith)) o)
      (cases_order i j)

  once : IsOnce (reverse F ++ rest)
  once i j x p q = elim (side i x p) [
    | front k s e ↦ elim (side j x q) [
      | front k' s' e' ↦ let same = f.once k k' x s s' in omega arith
      | back k' s' e' ↦ absurd (apart x (k, s) (k', s'))
    ]
    | back k s e ↦ elim (side j x q) [
      | front k' s' e' ↦ absurd (apart x (k', s') (k, s))
      | back k' s' e' ↦ let same = once_back k k' x s s' in omega arith
    ]
  ]

  all : (p : ℕ) → p < n → Stands (reverse F ++ rest) p
  all p l = ⊎_elim
      (λ t. let s = (members p).0 t in (s.0, joined_left (reverse F) rest s.0 p s.1))
      (λ t. joined_right (reverse F) rest p ((a.members p).1 (l, t)))
      (cases_Bool (has set p))

  stands_there : (x : ℕ) → FromRoot R n x → Stands (reverse F ++ rest) x
  stands_there x from = let s = finished x from in all x (below s.0 x s.1)

  -- the finished ones from the end, and then the rest, are a topological index
  pub topo_of : IsTopo R n (reverse F ++ rest)
  topo_of = record {
    listing = record { count = length_of_all n (reverse F ++ rest) once all_below all; once = once; below = all_below; all = all };
    steps = λ u v from r none.
        let to : FromRoot R n v = (from.0, from.1, step from.2 r) in
        let i = stands_there u from in
        let j = stands_there v to in
        let pu = in_front i.0 u i.1 from in
        let pv = in_front j.0 v j.1 to in
        let less : i.0 < j.0 = ⊎_elim
        (λ w. absurd (none w))
        (λ b. let same = f.once b.0 pv.0 v b.2 pv.1 in let l = b.1 in let e = pu.2 in let e' = pv.2 in omega arith)
        (f.steps pu.0 u v pu.1 r) in
        (i.0, j.0, less, i.1, j.1);
    last = λ u v low from none.
        let i = stands_there u from in
        let j = all v low in
        let pu = in_front i.0 u i.1 from in
        let pv = in_back j.0 v j.1 none in
        (i.0, j.0, (let e = pu.2 in let e' = pv.2 in omega arith), i.1, j.1);
    ascending = λ u v none none' p.
        let pu = in_back p.0 u p.3 none in
        let pv = in_back p.1 v p.4 none' in
        a.ascends pu.0 pv.0 u v pu.1 pv.1 (let l = p.2 in let e = pu.2 in let e' = pv.2 in omega arith);
  }

-- a listing has positions alone
pub order_below : (n : ℕ) (order : List ℕ) → IsListing n order → All (λ p. p < length order) order
order_below n order t k d h = let l = t.below k (get_or order k d) (slice_get-get_or order k d h) in let c = t.count in omega arith

-- a list of positions turned round has positions alone
pub reversed_below : (n : ℕ) (F : List ℕ) → All (λ p. p < n) F → All (λ p. p < n) (reverse F)
reversed_below n F a k d h =
    let s = stands_reversed F (get_or (reverse F) k d) (k, slice_get-get_or (reverse F) k d h) in
    All-contains (λ p. p < n) F (get_or (reverse F) k d) a (stands_contains F (get_or (reverse F) k d) s)

-- the same from what the calls say
pub topo_from : (R : ℕ → ℕ → Type 0) (n : ℕ) (starts F rest : List ℕ) (set : List Bool) → ((p : ℕ) → Stands starts p ↔ IsIndexRoot R n p) → IsFinishList R (Contains starts) F → All (λ p. p < n) F → length set ≡ n → ((p : ℕ) → (has set p ≡ true) ↔ Stands (reverse F) p) → IsAbsence set (length set) rest → IsTopo R n (reverse F ++ rest)
topo_from R n starts F rest set roots f below limit members a =
    let a' : IsAbsence set n rest = subst (λ z. IsAbsence set z rest) limit a in
    topo_of R n F rest set (Contains starts) (λ p. (λ c. (roots p).0 (contains_stands starts p c), λ r. stands_contains starts p ((roots p).1 r))) f (λ i x h. All-contains (λ p. p < n) F x below (stands_contains F x (i, h))) members a'

-- what was finished from all roots is what roots lead to
pub finished_from_roots : (R : ℕ → ℕ → Type 0) (n : ℕ) (starts F : List ℕ) → ((p : ℕ) → Stands starts p ↔ IsIndexRoot R n p) → IsFinishList R (Contains starts) F → (p : ℕ) → Stands F p ↔ FromRoot R n p
finished_from_roots R n starts F roots f p = (
  λ t. let r = (f.reached p).0 t in (r.0, (roots r.0).0 (contains_stands starts r.0 r.1), r.2),
  λ r. (f.reached p).1 (r.0, stands_contains starts r.0 ((roots r.0).1 r.1), r.2),
)
