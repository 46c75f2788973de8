-- Packages with an ID.
use Rattle.std.proofs.Common.{◌≡◌, ◌∙◌, sym, refl, arith, ℕ, zero, suc, ◌<◌, List, [], ◌∷◌, length, Option, Some, None, slice_get}
use Rattle.std.specs.Prelude.{IsSomeAnd}
use Rattle.std.specs.Option.{option_and_then}
use Rattle.std.specs.List.{range_with_len}
use Rattle.std.specs.List.Sorted.{IsPermutation}
use Rattle.std.specs.Ordering.{nat_cmp}
use Rattle.std.specs.Cmp.Lexicographic.{slice_cmp}
use Rattle.guppy_data.specs.declared.records.PackageRecord.{PackageRecord}
use Rattle.guppy_graph.specs.Keys.{HasKey, NoneBelow}
use Rattle.guppy_graph.specs.Ids.{id_at, HasId, IsKnown, DistinctBelow}
use Rattle.guppy_graph.specs.Indexes.{IsIdIndex}
use Rattle.guppy_graph.proofs.Lists.{some_at}
use Rattle.guppy_graph.proofs.KeyIndexes.{exact_there, exact_back, index_of_all}

owner_there : (o : Option PackageRecord) (id : List ℕ) → IsSomeAnd (option_and_then (λ r. Some r.id) o) (λ own. own ≡ id) → IsSomeAnd o (λ r. r.id ≡ id)
owner_there None id h = absurd h
owner_there (Some r) id h = h

owner_back : (o : Option PackageRecord) (id : List ℕ) → IsSomeAnd o (λ r. r.id ≡ id) → IsSomeAnd (option_and_then (λ r. Some r.id) o) (λ own. own ≡ id)
owner_back None id h = absurd h
owner_back (Some r) id h = h

-- a position has an ID exactly where that is its key
module _ (packages : List PackageRecord) where
  pub id_there : (id : List ℕ) (p : ℕ) → HasKey (slice_cmp nat_cmp) (id_at packages) id p → HasId packages id p
  id_there id p h = owner_there (slice_get packages p) id (exact_there (id_at packages) id p h)

  pub id_back : (id : List ℕ) (p : ℕ) → HasId packages id p → HasKey (slice_cmp nat_cmp) (id_at packages) id p
  id_back id p h = exact_back (id_at packages) id p (owner_back (slice_get packages p) id h)

none_owns : (o : Option PackageRecord) (id : List ℕ) → None ≡ option_and_then (λ r. Some r.id) o → IsSomeAnd o (λ r. r.id ≡ id) → ⊥
none_owns None id is h = absurd h
none_owns (Some r) id is h = absurd (cc)

own_is : (o : Option PackageRecord) (own id : List ℕ) → Some own ≡ option_and_then (λ r. Some r.id) o → IsSomeAnd o (λ r. r.id ≡ id) → own ≡ id
own_is None own id is h = absurd h
own_is (Some r) own id is h = cc

own_has : (o : Option PackageRecord) (own id : List ℕ) → Some own ≡ option_and_then (λ r. Some r.id) o → own ≡ id → IsSomeAnd o (λ r. r.id ≡ id)
own_has None own id is same = absurd (cc)
own_has (Some r) own id is same = cc

-- where its key is this one, a position has the ID exactly where they are equal
module _ (packages : List PackageRecord) (p : ℕ) (id : List ℕ) where
  pub keyless : None ≡ id_at packages p → HasId packages id p → ⊥
  keyless is h = none_owns (slice_get packages p) id is h

  pub key_is : (own : List ℕ) → Some own ≡ id_at packages p → HasId packages id p → own ≡ id
  key_is own is h = own_is (slice_get packages p) own id is h

  pub key_has : (own : List ℕ) → Some own ≡ id_at packages p → own ≡ id → HasId packages id p
  key_has own is same = own_has (slice_get packages p) own id is same

one_id : (o : Option PackageRecord) (a b : List ℕ) → IsSomeAnd o (λ r. r.id ≡ a) → IsSomeAnd o (λ r. r.id ≡ b) → a ≡ b
one_id None a b h k = absurd h
one_id (Some r) a b h k = sym h ∙ k

-- a position has one ID
pub id_is : (packages : List PackageRecord) (a b : List ℕ) (p : ℕ) → HasId packages a p → HasId packages b p → a ≡ b
id_is packages a b p h k = one_id (slice_get packages p) a b h k

pub some_within : (packages : List PackageRecord) (p : ℕ) (P : PackageRecord → Type 0) → IsSomeAnd (slice_get packages p) P → p < length packages
some_within [] p P h = absurd h
some_within (r ∷ packages) zero P h = omega arith
some_within (r ∷ packages) (suc p) P h = let l = some_within packages p P h in omega arith

pub within_of : (packages : List PackageRecord) (id : List ℕ) (p : ℕ) → HasId packages id p → p < length packages
within_of packages id p h = some_within packages p _ h

-- an ID has one position
pub position_is : (packages : List PackageRecord) → DistinctBelow packages (length packages) → (id : List ℕ) (p q : ℕ) → HasId packages id p → HasId packages id q → p ≡ q
position_is packages distinct id p q at_p at_q = distinct p q id (within_of packages id p at_p) (within_of packages id q at_q) at_p at_q

-- an ID that no position has is unknown
pub unknown_of : (packages : List PackageRecord) (id : List ℕ) → NoneBelow (HasId packages) id (length packages) → IsKnown packages id → ⊥
unknown_of packages id none (p, has) = none p (within_of packages id p has) has

-- an index by ID has all positions
pub ids_all : (packages : List PackageRecord) (by_id : List ℕ) → IsIdIndex packages by_id → IsPermutation (range_with_len 0 (length packages)) by_id
ids_all packages by_id up = index_of_all (slice_cmp nat_cmp) (id_at packages) (length packages) (λ p below. let r = some_at packages p below in rw r.1 refl) by_id up
