-- Keys of positions, and positions in the order of their keys.
use Rattle.std.specs.Prelude.{◌≡◌, ℕ, ◌<◌, ◌-◌, List, [], length, filter, Option, is_some, IsSomeAnd, slice_get, slice_index}
use Rattle.std.specs.Option.{option_and_then, option_map_or}
use Rattle.std.specs.List.{AllAdjacentBelow, range_with_len}
use Rattle.std.specs.List.Sorted.{IsPermutation, IsSortedBy}
use Rattle.std.specs.declared.cmp.Ordering.{Ordering}
use Rattle.std.specs.declared.cmp.Ordering.TheVariants.{Less, Equal}
use Rattle.std.specs.Ordering.{is_lt, nat_cmp, on, then_cmp}

-- the key of the item at the position
abbrev pub item_key : {A : Type 0} → (A → Option (List ℕ)) → List A → ℕ → Option (List ℕ)
item_key key items p = option_and_then key (slice_get items p)

-- the key, and the empty one where there is none
abbrev pub or_empty : Option (List ℕ) → List ℕ
or_empty key = option_map_or (λ k. k) key []

-- the positions below n that have a key, ascending
abbrev pub keyed : (ℕ → Option (List ℕ)) → ℕ → List ℕ
keyed key_at n = filter (λ p. is_some (key_at p)) (range_with_len 0 n)

module _ (order : List ℕ → List ℕ → Ordering) (key_at : ℕ → Option (List ℕ)) where
  -- the position has a key that is equal to this one
  abbrev pub HasKey : List ℕ → ℕ → Type 0
  HasKey key p = IsSomeAnd (key_at p) (λ own. order own key ≡ Equal)

  -- the positions ascend by key, and then by position
  abbrev pub Ascends : List ℕ → Type 0
  Ascends index =
      IsSortedBy (λ a b. is_lt (then_cmp (on (λ p. or_empty (key_at p)) order) nat_cmp a b)) index

  -- the keys of neighbours ascend strictly
  abbrev pub Rise : List ℕ → Type 0
  Rise positions = AllAdjacentBelow (λ a b. order (or_empty (key_at a)) (or_empty (key_at b)) ≡ Less) positions (length positions)

  -- the position at the place has the key of the one before it in the index
  abbrev pub HasKeyBefore : List ℕ → ℕ → Type 0
  HasKeyBefore index place =
      let before = or_empty (key_at (slice_index index (place - 1))) in
      order before (or_empty (key_at (slice_index index place))) ≡ Equal

  -- the index has the positions below n that have a key, ascending by key and then by position
  pub record IsIndex (n : ℕ) (index : List ℕ) : Type 0 where
    pub permutation : IsPermutation (keyed key_at n) index
    pub ascends : Ascends index

module _ {K : Type 0} (Has : K → ℕ → Type 0) where
  -- no position below n has the key
  abbrev pub NoneBelow : K → ℕ → Type 0
  NoneBelow key n = (p : ℕ) → p < n → ¬ Has key p

  -- the position is the first that has the key
  abbrev pub IsFirstWith : K → ℕ → Type 0
  IsFirstWith key p = Has key p × NoneBelow key p

  -- the positions below n have different keys
  abbrev pub DifferBelow : ℕ → Type 0
  DifferBelow n = (i j : ℕ) (key : K) → i < n → j < n → Has key i → Has key j → i ≡ j

  -- the position has the key of an earlier one
  pub record IsRepeat (p : ℕ) : Type 0 where
    pub key : K
    pub here : Has key p
    pub earlier : ℕ
    pub is_earlier : earlier < p
    pub there : Has key earlier

  -- the position has the key of an earlier one, and no position before it has
  pub record IsFirstRepeat (p : ℕ) : Type 0 where
    pub repeat : IsRepeat p
    pub differ : DifferBelow p
