-- How what is added in steps comes together.
use Rattle.std.proofs.Common.{◌≡◌, ◌∙◌, ◌⊎◌, ◌↔◌, ℕ, ◌+◌, ◌<◌, ◌≤◌, map, List, [], ◌∷◌, ◌++◌, inl, inr, ap, sym, subst, take, get_or, length}
use Rattle.std.specs.Prelude.{Contains}
use Rattle.std.proofs.lemmas.List.Elements.{Contains-append_cases, Contains-append_left, Contains-append_right}
use Rattle.std.proofs.lemmas.List.{take_more, take_all, map-append, map_push}
use Rattle.guppy_search.proofs.Lists.{nothing_in, Contains-first, Contains-later, Contains-cons_cases}
use Rattle.guppy_changes.specs.Adding.{Adds, Where, Either, OfSome}

module _ {M : Type 0} where
  -- of a relation that states nothing, nothing
  pub adds_nothing : {R : M → Type 0} (xs : List M) → ((m : M) → R m → ⊥) → Adds R xs xs
  adds_nothing xs none = record {
    kept = λ m h. h;
    sound = λ m h. inl h;
    whole = λ m r. absurd (none m r);
  }

  -- the same by a relation that states the same
  pub adds_same : {R S : M → Type 0} {old new : List M} → ((m : M) → R m ↔ S m) → Adds R old new → Adds S old new
  adds_same {R} {S} {old} {new} same a = record {
    kept = a.kept;
    sound = λ m h. elim (a.sound m h) as (λ _. Contains old m ⊎ S m) [
      | inl i ↦ inl i
      | inr r ↦ inr ((same m).0 r)
    ];
    whole = λ m s. a.whole m ((same m).1 s);
  }

  -- what is added to nothing is all
  pub adds_to_nothing : {R : M → Type 0} {new : List M} → Adds R [] new → (m : M) → Contains new m ↔ R m
  adds_to_nothing {R} {new} a m = (
    λ h. elim (a.sound m h) as (λ _. R m) [ inl none ↦ absurd (nothing_in m none) | inr r ↦ r ],
    a.whole m,
  )

  -- one after another
  pub adds_then : {R S : M → Type 0} {old between new : List M} → Adds R old between → Adds S between new → Adds (Either R S) old new
  adds_then {R} {S} {old} {between} {new} a b = record {
    kept = λ m h. b.kept m (a.kept m h);
    sound = λ m h. elim (b.sound m h) as (λ _. Contains old m ⊎ (R m ⊎ S m)) [
      | inl i ↦ elim (a.sound m i) as (λ _. Contains old m ⊎ (R m ⊎ S m)) [
        | inl j ↦ inl j
        | inr r ↦ inr (inl r)
      ]
      | inr s ↦ inr (inr s)
    ];
    whole = λ m e. elim e as (λ _. Contains new m) [
      | inl r ↦ b.kept m (a.whole m r)
      | inr s ↦ b.whole m s
    ];
  }

  -- one that is put at the end
  pub adds_one : (one : M) (xs : List M) → Adds (λ m. m ≡ one) xs (xs ++ one ∷ [])
  adds_one one xs = record {
    kept = λ m h. Contains-append_left xs (one ∷ []) m h;
    sound = λ m h. elim (Contains-append_cases xs (one ∷ []) m h) as (λ _. Contains xs m ⊎ (m ≡ one)) [
      | inl i ↦ inl i
      | inr i ↦ elim (Contains-cons_cases one m [] i) as (λ _. Contains xs m ⊎ (m ≡ one)) [
        | inl e ↦ inr (sym e)
        | inr none ↦ absurd (nothing_in m none)
      ]
    ];
    whole = λ m e. Contains-append_right xs (one ∷ []) m (subst (λ (x : M). Contains (x ∷ []) m) e (Contains-first m []));
  }

  -- the same of what is stored, as it is shown
  pub adds_shown : {A : Type 0} (v : A → M) (xs new : List A) (x : A) → new ≡ xs ++ x ∷ [] → Adds (λ m. m ≡ v x) (map v xs) (map v new)
  adds_shown v xs new x pushed = subst (λ (ys : List M). Adds (λ m. m ≡ v x) (map v xs) ys) (sym (ap (map v) pushed ∙ map_push v xs x)) (adds_one (v x) (map v xs))

  -- what is stated if so
  pub adds_where : {P : Type 0} {one : M} {old new : List M} → P → Adds (λ m. m ≡ one) old new → Adds (Where P one) old new
  adds_where p a = adds_same (λ m. (λ e. (p, e), λ r. r.1)) a

  pub adds_where_not : {P : Type 0} {one : M} (xs : List M) → (P → ⊥) → Adds (Where P one) xs xs
  adds_where_not xs not_so = adds_nothing xs (λ m r. not_so r.0)

  -- nothing of no element, and then that of one more
  pub adds_of_none : {X : Type 0} (R : X → M → Type 0) (xs : List M) → Adds (OfSome [] R) xs xs
  adds_of_none R xs = adds_nothing xs (λ m r. nothing_in r.0 r.1)

  pub adds_of_more : {X : Type 0} {R : X → M → Type 0} (xs : List X) (x : X) {old between new : List M} → Adds (OfSome xs R) old between → Adds (R x) between new → Adds (OfSome (xs ++ x ∷ []) R) old new
  adds_of_more {X} {R} xs x a b = adds_same (λ m. (
    λ e. elim e as (λ _. OfSome (xs ++ x ∷ []) R m) [
      | inl r ↦ (r.0, Contains-append_left xs (x ∷ []) r.0 r.1, r.2)
      | inr s ↦ (x, Contains-append_right xs (x ∷ []) x (Contains-first x []), s)
    ],
    λ r. elim (Contains-append_cases xs (x ∷ []) r.0 r.1) as (λ _. OfSome xs R m ⊎ R x m) [
      | inl i ↦ inl (r.0, i, r.2)
      | inr i ↦ elim (Contains-cons_cases x r.0 [] i) as (λ _. OfSome xs R m ⊎ R x m) [
        | inl e ↦ inr (subst (λ (y : X). R y m) (sym e) r.2)
        | inr none ↦ absurd (nothing_in r.0 none)
      ]
    ],
  )) (adds_then a b)

  -- the first element's, and then that of the others
  pub adds_of_next : {X : Type 0} {R : X → M → Type 0} (x : X) (xs : List X) {old between new : List M} → Adds (R x) old between → Adds (OfSome xs R) between new → Adds (OfSome (x ∷ xs) R) old new
  adds_of_next {X} {R} x xs a b = adds_same (λ m. (
    λ e. elim e as (λ _. OfSome (x ∷ xs) R m) [
      | inl r ↦ (x, Contains-first x xs, r)
      | inr s ↦ (s.0, Contains-later x s.0 xs s.1, s.2)
    ],
    λ r. elim (Contains-cons_cases x r.0 xs r.1) as (λ _. R x m ⊎ OfSome xs R m) [
      | inl e ↦ inl (subst (λ (y : X). R y m) (sym e) r.2)
      | inr i ↦ inr (r.0, i, r.2)
    ],
  )) (adds_then a b)

  -- A loop over what is seen of a list's elements.

  pub adds_map_at : {X Y : Type 0} {R : Y → M → Type 0} (v : X → Y) (xs : List X) (i : ℕ) (d : X) → i < length xs → {old between new : List M} → Adds (OfSome (map v (take i xs)) R) old between → Adds (R (v (get_or xs i d))) between new → Adds (OfSome (map v (take (i + 1) xs)) R) old new
  adds_map_at {X} {Y} {R} v xs i d below {old} {between} {new} a b =
      let mapped : map v (take (i + 1) xs) ≡ map v (take i xs) ++ v (get_or xs i d) ∷ [] = ap (map v) (take_more xs i d below) ∙ map-append v (take i xs) (get_or xs i d ∷ []) in
      subst (λ (ys : List Y). Adds (OfSome ys R) old new) (sym mapped) (adds_of_more (map v (take i xs)) (v (get_or xs i d)) a b)

  pub adds_map_more : {X Y : Type 0} {R : Y → M → Type 0} (v : X → Y) (xs : List X) (i : ℕ) (x : X) → i < length xs → x ≡ get_or xs i x → {old between new : List M} → Adds (OfSome (map v (take i xs)) R) old between → Adds (R (v x)) between new → Adds (OfSome (map v (take (i + 1) xs)) R) old new
  adds_map_more {X} {Y} {R} v xs i x below at {old} {between} {new} a b =
      adds_map_at v xs i x below a (subst (λ (y : X). Adds (R (v y)) between new) at b)

  pub adds_map_all : {X Y : Type 0} {R : Y → M → Type 0} (v : X → Y) (xs : List X) (i : ℕ) → length xs ≤ i → {old new : List M} → Adds (OfSome (map v (take i xs)) R) old new → Adds (OfSome (map v xs) R) old new
  adds_map_all {X} {Y} {R} v xs i past {old} {new} a = subst (λ (ys : List X). Adds (OfSome (map v ys) R) old new) (take_all i xs past) a
