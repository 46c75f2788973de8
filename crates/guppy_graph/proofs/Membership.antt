-- The members of the workspace: their positions, their paths and their names.
use Rattle.std.proofs.Common.{◌≡◌, subst, refl, ℕ, zero, suc, ◌<◌, List, [], ◌∷◌, length, get_or, arith, All, Option, Some, None, slice_get}
use Rattle.std.specs.Prelude.{◌↔◌, true, IsSomeAnd, is_some, option_map}
use Rattle.std.specs.Option.{option_and_then}
use Rattle.std.specs.List.{Contains, range_with_len}
use Rattle.std.specs.List.Sorted.{IsPermutation}
use Rattle.std.specs.Ordering.{nat_cmp}
use Rattle.std.specs.Cmp.Lexicographic.{slice_cmp}
use Rattle.std.proofs.lemmas.Cmp.{nat_list_cmp_total}
use Rattle.std.proofs.lemmas.List.Elements.{Contains-get_or, filter_agree}
use Rattle.std.proofs.lemmas.List.Sorted.{All-permutation, Contains-permutation, IsPermutation-sym}
use Rattle.guppy_data.specs.Path.{path_cmp}
use Rattle.guppy_data.specs.declared.records.PackageRecord.{PackageRecord}
use Rattle.guppy_graph.specs.Keys.{HasKey, NoneBelow, DifferBelow, keyed}
use Rattle.guppy_graph.specs.Members.{member_path, member_name, path_at, name_at, HasPath, HasName, IsMember, IsMemberName, members_of, AreMembersByPath, AreMembersByName}
use Rattle.guppy_graph.specs.Indexes.{IsPathIndex, IsNameIndex}
use Rattle.guppy_graph.proofs.KeyIndexes.{keyed_below, keyed_some, in_keyed, DifferBelow-along, exact_there, exact_back}
use Rattle.guppy_graph.specs.PathOrder.{path_total}
use Rattle.guppy_graph.proofs.AscendingIndexes.{index_ascends}

-- a position with a key of its package is a package's
key_within : (f : PackageRecord → Option (List ℕ)) (packages : List PackageRecord) (p : ℕ) (P : List ℕ → Type 0) → IsSomeAnd (option_and_then f (slice_get packages p)) P → p < length packages
key_within f [] p P h = absurd h
key_within f (r ∷ packages) zero P h = omega arith
key_within f (r ∷ packages) (suc p) P h = let l = key_within f packages p P h in omega arith

some_key : (o : Option (List ℕ)) → is_some o ≡ true → IsSomeAnd o (λ _. Unit {0})
some_key None h = absurd (cc)
some_key (Some k) h = tt

member_within : (packages : List PackageRecord) (p : ℕ) → IsMember packages p → p < length packages
member_within packages p h = key_within member_path packages p (λ _. Unit {0}) (some_key (path_at packages p) h)

is_some-map : {A B : Type 0} (f : A → B) (o : Option A) → is_some (option_map f o) ≡ is_some o
is_some-map f None = refl
is_some-map f (Some x) = refl

-- a package has a name as a member exactly where it has a path
named_alike : (o : Option PackageRecord) → is_some (option_and_then member_name o) ≡ is_some (option_and_then member_path o)
named_alike None = refl
named_alike (Some r) = is_some-map _ (member_path r)

module _ (packages : List PackageRecord) where
  pub path_within : (path : List ℕ) (p : ℕ) → HasPath packages path p → p < length packages
  path_within path p h = key_within member_path packages p _ h

  pub name_within : (name : List ℕ) (p : ℕ) → HasName packages name p → p < length packages
  name_within name p h = key_within member_name packages p _ h

  -- a name that no position has is unknown
  pub no_member_name : (name : List ℕ) → NoneBelow (HasName packages) name (length packages) → IsMemberName packages name → ⊥
  no_member_name name none (p, has) = none p (name_within name p has) has

  -- the packages with names as members are the members
  names_of_members : keyed (name_at packages) (length packages) ≡ members_of packages
  names_of_members = filter_agree (λ p. is_some (name_at packages p)) (λ p. is_some (path_at packages p)) (λ p. named_alike (slice_get packages p)) (range_with_len 0 (length packages))

  pub by_path_from_index : (index : List ℕ) → IsPathIndex packages index → DifferBelow (HasPath packages) (length packages) → AreMembersByPath packages index
  by_path_from_index index up differ = record {
    permutation = up.permutation;
    ascend = index_ascends path_cmp path_total (path_at packages) (length packages) index up differ;
  }

  pub by_name_from_index : (index : List ℕ) → IsNameIndex packages index → DifferBelow (HasName packages) (length packages) → AreMembersByName packages index
  by_name_from_index index up differ = record {
    permutation = subst (λ members. IsPermutation members index) names_of_members up.permutation;
    ascend = index_ascends (slice_cmp nat_cmp) nat_list_cmp_total (name_at packages) (length packages) index up
        (DifferBelow-along (HasName packages) (HasKey (slice_cmp nat_cmp) (name_at packages)) (exact_back (name_at packages)) (exact_there (name_at packages)) (length packages) differ);
  }

  -- members are packages
  pub members_below : (members : List ℕ) → IsPermutation (members_of packages) members → All (λ p. p < length packages) members
  members_below members same = All-permutation (λ p. p < length packages) (members_of packages) members same
      (λ k d within. keyed_below (path_at packages) (length packages) (get_or (members_of packages) k d) (Contains-get_or (members_of packages) k d within))

  -- the positions are exactly those of the members
  pub members_are : (members : List ℕ) → IsPermutation (members_of packages) members → (p : ℕ) → Contains members p ↔ IsMember packages p
  members_are members same p = (
    λ there. keyed_some (path_at packages) (length packages) p (Contains-permutation members (members_of packages) p (IsPermutation-sym (members_of packages) members same) there),
    λ member. Contains-permutation (members_of packages) members p same (in_keyed (path_at packages) (length packages) p (member_within packages p member) member),
  )
