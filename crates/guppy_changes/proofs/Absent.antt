-- Marks of one list that the other one hasn't, one by one.
use Rattle.std.proofs.Common.{◌≡◌, ◌∙◌, ◌⊎◌, inl, inr, refl, sym, ap, subst, ℕ, ◌+◌, ◌<◌, List, [], ◌∷◌, ◌++◌, length, map, take, get_or, Contains}
use Rattle.std.proofs.lemmas.List.Elements.{Contains-append_cases, Contains-append_left, Contains-append_right}
use Rattle.guppy_search.proofs.Lists.{nothing_in, Contains-first, Contains-cons_cases}
use Rattle.std.proofs.Common.{Bor, Bool, true, false, not}
use Rattle.std.proofs.lemmas.List.{map_push}
use Rattle.guppy_data.specs.declared.texts.package_id.PackageId.{PackageId}
use Rattle.guppy_changes.specs.declared.mark.MarkOf.{MarkOf}
use Rattle.guppy_changes.specs.Shown.{Marked, shown, all_shown}
use Rattle.guppy_changes.specs.Missing.{AddsMissing, AreDiffering}
use Rattle.guppy_data.proofs.Mapped.{one_more_mapped}

last_cases : {X : Type 0} (xs : List X) (x y : X) → Contains (xs ++ x ∷ []) y → Contains xs y ⊎ (x ≡ y)
last_cases xs x y h = elim (Contains-append_cases xs (x ∷ []) y h) as (λ _. Contains xs y ⊎ (x ≡ y)) [
  | inl i ↦ inl i
  | inr i ↦ elim (Contains-cons_cases x y [] i) as (λ _. Contains xs y ⊎ (x ≡ y)) [
    | inl e ↦ inr e
    | inr none ↦ absurd (nothing_in y none)
  ]
]

last_in : {X : Type 0} (xs : List X) (x : X) → Contains (xs ++ x ∷ []) x
last_in xs x = Contains-append_right xs (x ∷ []) x (Contains-first x [])

module _ (ys : List Marked) (old : List (List ℕ)) where
  Of : List Marked → List ℕ → Type 0
  Of xs id = (m : Marked) × (m.0 ≡ id) × Contains xs m × (¬ Contains ys m)

  pub missing_none : AddsMissing [] ys old old
  missing_none = record {
    kept = λ id h. h;
    each = λ m h. absurd (nothing_in m h);
    sound = λ id h. inl h;
  }

  module _ (xs : List Marked) (new : List (List ℕ)) (x : Marked) (a : AddsMissing xs ys old new) where
    -- one more, which the other list has
    pub missing_there : Contains ys x → AddsMissing (xs ++ x ∷ []) ys old new
    missing_there there = record {
      kept = a.kept;
      each = λ m h. elim (last_cases xs x m h) as (λ _. Contains ys m ⊎ Contains new m.0) [
        | inl i ↦ a.each m i
        | inr e ↦ inl (subst (Contains ys) e there)
      ];
      sound = λ id h. elim (a.sound id h) as (λ _. Contains old id ⊎ ((m : Marked) × (m.0 ≡ id) × Contains (xs ++ x ∷ []) m × (¬ Contains ys m))) [
        | inl i ↦ inl i
        | inr s ↦ inr (s.0, s.1, Contains-append_left xs (x ∷ []) s.0 s.2, s.3)
      ];
    }

    -- or hasn't
    pub missing_new : ¬ Contains ys x → AddsMissing (xs ++ x ∷ []) ys old (new ++ x.0 ∷ [])
    missing_new absent = record {
      kept = λ id h. Contains-append_left new (x.0 ∷ []) id (a.kept id h);
      each = λ m h. elim (last_cases xs x m h) as (λ _. Contains ys m ⊎ Contains (new ++ x.0 ∷ []) m.0) [
        | inl i ↦ elim (a.each m i) as (λ _. Contains ys m ⊎ Contains (new ++ x.0 ∷ []) m.0) [
          | inl j ↦ inl j
          | inr j ↦ inr (Contains-append_left new (x.0 ∷ []) m.0 j)
        ]
        | inr e ↦ inr (subst (λ (y : Marked). Contains (new ++ x.0 ∷ []) y.0) e (last_in new x.0))
      ];
      sound = λ id h. elim (last_cases new x.0 id h) as (λ _. Contains old id ⊎ ((m : Marked) × (m.0 ≡ id) × Contains (xs ++ x ∷ []) m × (¬ Contains ys m))) [
        | inl j ↦ elim (a.sound id j) as (λ _. Contains old id ⊎ ((m : Marked) × (m.0 ≡ id) × Contains (xs ++ x ∷ []) m × (¬ Contains ys m))) [
          | inl i ↦ inl i
          | inr s ↦ inr (s.0, s.1, Contains-append_left xs (x ∷ []) s.0 s.2, s.3)
        ]
        | inr e ↦ inr (x, e, last_in xs x, absent)
      ];
    }

-- A loop over marks.

module _ (ys : List Marked) (old : List (List ℕ)) (marks : List MarkOf) (i : ℕ) (x : MarkOf) (below : i < length marks) (is : x ≡ get_or marks i x) where
  pub next_there : (new : List (List ℕ)) → AddsMissing (all_shown (take i marks)) ys old new → Contains ys (shown x) → AddsMissing (all_shown (take (i + 1) marks)) ys old new
  next_there new a there = subst (λ xs. AddsMissing xs ys old new) (sym (one_more_mapped shown marks i x below is)) (missing_there ys old (all_shown (take i marks)) new (shown x) a there)

  pub next_new : (ids more : List (Bor PackageId)) → more ≡ ids ++ x.id ∷ [] → AddsMissing (all_shown (take i marks)) ys old (map (λ id. id.now) ids) → ¬ Contains ys (shown x)
      → AddsMissing (all_shown (take (i + 1) marks)) ys old (map (λ id. id.now) more)
  next_new ids more pushed a absent =
      let told : map (λ (id : Bor PackageId). id.now) more ≡ map (λ (id : Bor PackageId). id.now) ids ++ x.id.now ∷ [] = ap (map (λ (id : Bor PackageId). id.now)) pushed ∙ map_push (λ (id : Bor PackageId). id.now) ids x.id in
      subst (λ xs. AddsMissing xs ys old (map (λ (id : Bor PackageId). id.now) more)) (sym (one_more_mapped shown marks i x below is))
      (subst (AddsMissing (all_shown (take i marks) ++ shown x ∷ []) ys old) (sym told) (missing_new ys old (all_shown (take i marks)) (map (λ (id : Bor PackageId). id.now) ids) (shown x) a absent))

pub apart : (b : Bool) → b ≡ false → b ≡ true → ⊥
apart b n h = absurd (cc)

pub not_apart : (b : Bool) → not b ≡ true → b ≡ true → ⊥
not_apart true n h = absurd (cc)
not_apart false n h = absurd (cc)

pub not_where : (b : Bool) → (b ≡ true → ⊥) → not b ≡ true
not_where true n = absurd (n refl)
not_where false n = refl

-- those of two lists, either way
pub differing_both : (xs ys : List Marked) (between new : List (List ℕ)) → AddsMissing xs ys [] between → AddsMissing ys xs between new → AreDiffering xs ys new
differing_both xs ys between new a b = record {
  here = λ m h. elim (a.each m h) as (λ _. Contains ys m ⊎ Contains new m.0) [
    | inl i ↦ inl i
    | inr j ↦ inr (b.kept m.0 j)
  ];
  there = b.each;
  only = λ id h. elim (b.sound id h) as (λ _. (m : Marked) × (m.0 ≡ id) × ((Contains xs m × (¬ Contains ys m)) ⊎ (Contains ys m × (¬ Contains xs m)))) [
    | inl i ↦ elim (a.sound id i) as (λ _. (m : Marked) × (m.0 ≡ id) × ((Contains xs m × (¬ Contains ys m)) ⊎ (Contains ys m × (¬ Contains xs m)))) [
      | inl none ↦ absurd (nothing_in id none)
      | inr s ↦ (s.0, s.1, inl (s.2, s.3))
    ]
    | inr s ↦ (s.0, s.1, inr (s.2, s.3))
  ];
}

-- the same of IDs that are the same
pub differing_same : (xs ys : List Marked) (ids others : List (List ℕ)) → ((id : List ℕ) → (Contains others id → Contains ids id) × (Contains ids id → Contains others id)) → AreDiffering xs ys ids → AreDiffering xs ys others
differing_same xs ys ids others same d = record {
  here = λ m h. elim (d.here m h) as (λ _. Contains ys m ⊎ Contains others m.0) [ inl i ↦ inl i | inr j ↦ inr ((same m.0).1 j) ];
  there = λ m h. elim (d.there m h) as (λ _. Contains xs m ⊎ Contains others m.0) [ inl i ↦ inl i | inr j ↦ inr ((same m.0).1 j) ];
  only = λ id h. d.only id ((same id).0 h);
}
