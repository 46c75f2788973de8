-- A list that is searched up to an index, by what is seen of its elements.
use Rattle.std.proofs.Common.{◌≡◌, ◌↔◌, ℕ, ◌+◌, ◌<◌, ◌≤◌, Bool, true, false, map, List, [], ◌∷◌, ◌++◌, ◌∙◌, inl, inr, ap, sym, subst, take, drop, get_or, length}
use Rattle.std.specs.Prelude.{Contains, IsTrue}
use Rattle.std.proofs.lemmas.List.{take_more, take_all, map-append, take-append-drop}
use Rattle.std.proofs.lemmas.List.Elements.{Contains-append_left, Contains-push, Contains-push_cases}
use Rattle.guppy_builds.specs.Required.{HasOne}

-- what a test denies
pub not_so : {P : Type 0} (b : Bool) → IsTrue b ↔ P → b ≡ false → P → ⊥
not_so b decides is p = let so : b ≡ true = decides.1 p in absurd cc

module _ {X Y : Type 0} (v : X → Y) (P : Y → Type 0) (xs : List X) (i : ℕ) where
  seen_more : (x : X) → i < length xs → x ≡ get_or xs i x → map v (take (i + 1) xs) ≡ map v (take i xs) ++ v x ∷ []
  seen_more x below at =
      ap (map v) (take_more xs i x below ∙ ap (λ (y : X). take i xs ++ y ∷ []) (sym at)) ∙ map-append v (take i xs) (x ∷ [])

  seen_of_all : (n : ℕ) (y : Y) → Contains (map v (take n xs)) y → Contains (map v xs) y
  seen_of_all n y h =
      let all : map v (take n xs) ++ map v (drop n xs) ≡ map v xs = sym (map-append v (take n xs) (drop n xs)) ∙ ap (map v) (take-append-drop n xs) in
      subst (λ (zs : List Y). Contains zs y) all (Contains-append_left (map v (take n xs)) (map v (drop n xs)) y h)

  seen_at : (x : X) → i < length xs → x ≡ get_or xs i x → Contains (map v xs) (v x)
  seen_at x below at =
      seen_of_all (i + 1) (v x) (subst (λ (zs : List Y). Contains zs (v x)) (sym (seen_more x below at)) (Contains-push (map v (take i xs)) (v x)))

  -- the element of the index is found
  pub one_found : (x : X) → i < length xs → x ≡ get_or xs i x → P (v x) → HasOne (map v xs) P
  one_found x below at p = (v x, seen_at x below at, p)

  -- none up to the index, and none at it
  pub none_more : (x : X) → i < length xs → x ≡ get_or xs i x → (HasOne (map v (take i xs)) P → ⊥) → (P (v x) → ⊥) → HasOne (map v (take (i + 1) xs)) P → ⊥
  none_more x below at none not_it h =
      let there = subst (λ (zs : List Y). Contains zs h.0) (seen_more x below at) h.1 in
      elim (Contains-push_cases (map v (take i xs)) (v x) h.0 there) as (λ _. ⊥) [
        | inl before ↦ none (h.0, before, h.2)
        | inr it ↦ not_it (subst P (sym it) h.2)
      ]

  pub none_all : length xs ≤ i → (HasOne (map v (take i xs)) P → ⊥) → HasOne (map v xs) P → ⊥
  none_all past none h = none (subst (λ (zs : List X). HasOne (map v zs) P) (sym (take_all i xs past)) h)

  -- each up to the index, and that of it
  pub each_more : (x : X) → i < length xs → x ≡ get_or xs i x → ((y : Y) → Contains (map v (take i xs)) y → P y) → P (v x) → (y : Y) → Contains (map v (take (i + 1) xs)) y → P y
  each_more x below at each it y h =
      let there = subst (λ (zs : List Y). Contains zs y) (seen_more x below at) h in
      elim (Contains-push_cases (map v (take i xs)) (v x) y there) as (λ _. P y) [
        | inl before ↦ each y before
        | inr same ↦ subst P same it
      ]

  pub each_all : length xs ≤ i → ((y : Y) → Contains (map v (take i xs)) y → P y) → (y : Y) → Contains (map v xs) y → P y
  each_all past each y h = each y (subst (λ (zs : List X). Contains (map v zs) y) (sym (take_all i xs past)) h)

  -- not each, where not that of the index
  pub not_each : (x : X) → i < length xs → x ≡ get_or xs i x → (P (v x) → ⊥) → ((y : Y) → Contains (map v xs) y → P y) → ⊥
  not_each x below at not_it each = not_it (each (v x) (seen_at x below at))
