-- How what is added in steps comes together.
use Rattle.std.proofs.Common.{◌≡◌, ◌⊎◌, ◌↔◌, ℕ, ◌+◌, ◌<◌, ◌≤◌, map, List, [], ◌∷◌, ◌++◌, Option, Some, None, ◌∙◌, inl, inr, refl, ap, sym, subst, take, get_or, length, arith}
use Rattle.std.specs.Prelude.{Contains, option_to_list}
use Rattle.std.proofs.lemmas.List.Elements.{Contains-append_cases, Contains-append_left, Contains-append_right}
use Rattle.std.proofs.lemmas.Bool.{cases_lt}
use Rattle.std.proofs.lemmas.List.{take_more, take_all, map-append}
use Rattle.guppy_search.proofs.Lists.{nothing_in, Contains-first, Contains-later, Contains-cons_cases}
use Rattle.guppy_closure.specs.declared.clause.Clause.{Clause}
use Rattle.guppy_closure.specs.Clauses.{InBody}
use Rattle.guppy_closure.specs.Named.{body_of}
use Rattle.guppy_closure.specs.Relations.{AreClausesOf}
use Rattle.guppy_features.specs.Adding.{Adds, Where, Behind, Either, If, OfSome, OfBelow}

split : (i n : ℕ) → i < n + 1 → (i < n) ⊎ (i ≡ n)
split i n h = elim (cases_lt i n) as (λ _. (i < n) ⊎ (i ≡ n)) [ inl less ↦ inl less | inr more ↦ inr (omega arith) ]

module _ {F : Type 0} where
  some_same : {x y : F} → Some x ≡ Some y → x ≡ y
  some_same e = cc

  in_first : (a : Option F) (b : F) (ys : List F) → a ≡ Some b → Contains (option_to_list a ++ ys) b
  in_first None b ys e = absurd cc
  in_first (Some x) b ys e = let q : x ≡ b = cc in subst (λ (y : F). Contains (y ∷ ys) b) (sym q) (Contains-first b ys)

  in_second : (xs : List F) (a : Option F) (b : F) → a ≡ Some b → Contains (xs ++ option_to_list a) b
  in_second xs None b e = absurd cc
  in_second xs (Some x) b e = let q : x ≡ b = cc in subst (λ (y : F). Contains (xs ++ y ∷ []) b) (sym q) (Contains-append_right xs (b ∷ []) b (Contains-first b []))

  pub in_body : (c : Clause F) (b : F) → InBody c b → Contains (body_of c) b
  in_body c b i = elim i as (λ _. Contains (body_of c) b) [
    | inl e ↦ in_first c.first b (option_to_list c.second) e
    | inr e ↦ in_second (option_to_list c.first) c.second b e
  ]

  below_cases : (R : ℕ → List F → F → Type 0) (n : ℕ) (body : List F) (f : F) (i : ℕ) → i < n + 1 → R i body f → OfBelow n R body f ⊎ R n body f
  below_cases R n body f i h r = elim (split i n h) as (λ _. OfBelow n R body f ⊎ R n body f) [
    | inl less ↦ inl (i, less, r)
    | inr same ↦ inr (subst (λ (k : ℕ). R k body f) same r)
  ]

  -- of a relation that states nothing, nothing
  pub adds_nothing : {R : List F → F → Type 0} (xs : List (Clause F)) → ((body : List F) (f : F) → R body f → ⊥) → Adds R xs xs
  adds_nothing xs none = record {
    kept = λ c h. h;
    sound = λ c h. inl h;
    whole = λ body f r. absurd (none body f r);
  }

  -- the same by a relation that states the same
  pub adds_same : {R S : List F → F → Type 0} {old new : List (Clause F)} → ((body : List F) (f : F) → R body f ↔ S body f) → Adds R old new → Adds S old new
  adds_same {R} {S} {old} {new} same a = record {
    kept = a.kept;
    sound = λ c h. elim (a.sound c h) as (λ _. Contains old c ⊎ S (body_of c) c.head) [
      | inl i ↦ inl i
      | inr r ↦ inr ((same (body_of c) c.head).0 r)
    ];
    whole = λ body f s. a.whole body f ((same body f).1 s);
  }

  -- one after another
  pub adds_then : {R S : List F → F → Type 0} {old between new : List (Clause F)} → Adds R old between → Adds S between new → Adds (Either R S) old new
  adds_then {R} {S} {old} {between} {new} a b = record {
    kept = λ c h. b.kept c (a.kept c h);
    sound = λ c h. elim (b.sound c h) as (λ _. Contains old c ⊎ (R (body_of c) c.head ⊎ S (body_of c) c.head)) [
      | inl i ↦ elim (a.sound c i) as (λ _. Contains old c ⊎ (R (body_of c) c.head ⊎ S (body_of c) c.head)) [
        | inl j ↦ inl j
        | inr r ↦ inr (inl r)
      ]
      | inr s ↦ inr (inr s)
    ];
    whole = λ body f e. elim e as (λ _. (c : Clause F) × Contains new c × (c.head ≡ f) × ((b : F) → InBody c b → Contains body b)) [
      | inl r ↦ let w = a.whole body f r in (w.0, b.kept w.0 w.1, w.2, w.3)
      | inr s ↦ b.whole body f s
    ];
  }

  -- nothing of no element, and then that of one more
  pub adds_of_none : {X : Type 0} (R : X → List F → F → Type 0) (xs : List (Clause F)) → Adds (OfSome [] R) xs xs
  adds_of_none R xs = adds_nothing xs (λ body f r. nothing_in r.0 r.1)

  pub adds_of_more : {X : Type 0} {R : X → List F → F → Type 0} (xs : List X) (x : X) {old between new : List (Clause F)} → Adds (OfSome xs R) old between → Adds (R x) between new → Adds (OfSome (xs ++ x ∷ []) R) old new
  adds_of_more {X} {R} xs x a b = adds_same (λ body f. (
    λ e. elim e as (λ _. OfSome (xs ++ x ∷ []) R body f) [
      | inl r ↦ (r.0, Contains-append_left xs (x ∷ []) r.0 r.1, r.2)
      | inr s ↦ (x, Contains-append_right xs (x ∷ []) x (Contains-first x []), s)
    ],
    λ r. elim (Contains-append_cases xs (x ∷ []) r.0 r.1) as (λ _. OfSome xs R body f ⊎ R x body f) [
      | inl i ↦ inl (r.0, i, r.2)
      | inr i ↦ elim (Contains-cons_cases x r.0 [] i) as (λ _. OfSome xs R body f ⊎ R x body f) [
        | inl e ↦ inr (subst (λ (y : X). R y body f) (sym e) r.2)
        | inr none ↦ absurd (nothing_in r.0 none)
      ]
    ],
  )) (adds_then a b)

  -- the first element's, and then that of the others
  pub adds_of_next : {X : Type 0} {R : X → List F → F → Type 0} (x : X) (xs : List X) {old between new : List (Clause F)} → Adds (R x) old between → Adds (OfSome xs R) between new → Adds (OfSome (x ∷ xs) R) old new
  adds_of_next {X} {R} x xs a b = adds_same (λ body f. (
    λ e. elim e as (λ _. OfSome (x ∷ xs) R body f) [
      | inl r ↦ (x, Contains-first x xs, r)
      | inr s ↦ (s.0, Contains-later x s.0 xs s.1, s.2)
    ],
    λ r. elim (Contains-cons_cases x r.0 xs r.1) as (λ _. R x body f ⊎ OfSome xs R body f) [
      | inl e ↦ inl (subst (λ (y : X). R y body f) (sym e) r.2)
      | inr i ↦ inr (r.0, i, r.2)
    ],
  )) (adds_then a b)

  -- the same of numbers below one more
  pub adds_below_none : (R : ℕ → List F → F → Type 0) (xs : List (Clause F)) → Adds (OfBelow 0 R) xs xs
  adds_below_none R xs = adds_nothing xs (λ body f r. let below = r.1 in omega arith)

  pub adds_below_more : {R : ℕ → List F → F → Type 0} (n : ℕ) {old between new : List (Clause F)} → Adds (OfBelow n R) old between → Adds (R n) between new → Adds (OfBelow (n + 1) R) old new
  adds_below_more {R} n a b = adds_same (λ body f. (
    λ e. elim e as (λ _. OfBelow (n + 1) R body f) [
      | inl r ↦ (r.0, (let below = r.1 in omega arith), r.2)
      | inr s ↦ (n, omega arith, s)
    ],
    λ r. below_cases R n body f r.0 r.1 r.2,
  )) (adds_then a b)

  -- a clause that is put at the end
  pub adds_clause : (first second : Option F) (head : F) (xs : List (Clause F)) → Adds (Where first second (Some head)) xs (xs ++ record { first = first; second = second; head = head } ∷ [])
  adds_clause first second head xs =
      let new : Clause F = record { first = first; second = second; head = head } in
      record {
        kept = λ c h. Contains-append_left xs (new ∷ []) c h;
        sound = λ c h. elim (Contains-append_cases xs (new ∷ []) c h) as (λ _. Contains xs c ⊎ Where first second (Some head) (body_of c) c.head) [
          | inl i ↦ inl i
          | inr i ↦ elim (Contains-cons_cases new c [] i) as (λ _. Contains xs c ⊎ Where first second (Some head) (body_of c) c.head) [
            | inl e ↦ inr (subst (λ (d : Clause F). Where first second (Some head) (body_of d) d.head) e (refl, refl))
            | inr none ↦ absurd (nothing_in c none)
          ]
        ];
        whole = λ body f w. (new, Contains-append_right xs (new ∷ []) new (Contains-first new []), some_same w.1, λ b i. subst (λ ys. Contains ys b) (sym w.0) (in_body new b i));
      }

  -- what is added to nothing is all
  pub adds_to_nothing : {R : List F → F → Type 0} {clauses : List (Clause F)} → Adds R [] clauses → AreClausesOf R clauses
  adds_to_nothing {R} {clauses} a = record {
    sound = λ c h. elim (a.sound c h) as (λ _. R (body_of c) c.head) [
      | inl none ↦ absurd (nothing_in c none)
      | inr r ↦ r
    ];
    whole = a.whole;
  }

  -- what is stated if so
  pub adds_if : {R : List F → F → Type 0} {P : Type 0} {old new : List (Clause F)} → P → Adds R old new → Adds (If P R) old new
  adds_if p a = adds_same (λ body f. (λ r. (p, r), λ r. r.1)) a

  pub adds_if_not : {R : List F → F → Type 0} {P : Type 0} (xs : List (Clause F)) → (P → ⊥) → Adds (If P R) xs xs
  adds_if_not xs not_so = adds_nothing xs (λ body f r. not_so r.0)

  -- What is stated behind a fact.

  pub behind_none : {R : List F → F → Type 0} {old new : List (Clause F)} → Adds R old new → Adds (Behind None R) old new
  behind_none {R} a = adds_same (λ body f. (λ r. (body, refl, r), λ r. subst (λ (ys : List F). R ys f) (sym r.1) r.2)) a

  pub behind_where : (first second head : Option F) {old new : List (Clause F)} → Adds (Where first second head) old new → Adds (Behind first (Where None second head)) old new
  behind_where first second head a = adds_same (λ body f. (
    λ w. (option_to_list second, w.0, (refl, w.1)),
    λ r. (r.1 ∙ ap (λ (ys : List F). option_to_list first ++ ys) r.2.0, r.2.1),
  )) a

  pub behind_either : {R S : List F → F → Type 0} (first : Option F) {old new : List (Clause F)} → Adds (Either (Behind first R) (Behind first S)) old new → Adds (Behind first (Either R S)) old new
  behind_either {R} {S} first a = adds_same (λ body f. (
    λ e. elim e as (λ _. Behind first (Either R S) body f) [ inl r ↦ (r.0, r.1, inl r.2) | inr s ↦ (s.0, s.1, inr s.2) ],
    λ b. elim b.2 as (λ _. Either (Behind first R) (Behind first S) body f) [ inl r ↦ inl (b.0, b.1, r) | inr s ↦ inr (b.0, b.1, s) ],
  )) a

  pub behind_if : {R : List F → F → Type 0} {P : Type 0} (first : Option F) {old new : List (Clause F)} → Adds (If P (Behind first R)) old new → Adds (Behind first (If P R)) old new
  behind_if first a = adds_same (λ body f. (λ r. (r.1.0, r.1.1, (r.0, r.1.2)), λ b. (b.2.0, (b.0, b.1, b.2.1)))) a

  pub behind_of_some : {X : Type 0} {R : X → List F → F → Type 0} (first : Option F) (xs : List X) {old new : List (Clause F)} → Adds (OfSome xs (λ x. Behind first (R x))) old new → Adds (Behind first (OfSome xs R)) old new
  behind_of_some first xs a = adds_same (λ body f. (λ r. (r.2.0, r.2.1, (r.0, r.1, r.2.2)), λ b. (b.2.0, b.2.1, (b.0, b.1, b.2.2)))) a

  -- A loop over a list, and one over what is seen of its elements.

  pub adds_take_more : {X : Type 0} {R : X → List F → F → Type 0} (xs : List X) (i : ℕ) (x : X) → i < length xs → x ≡ get_or xs i x → {old between new : List (Clause F)} → Adds (OfSome (take i xs) R) old between → Adds (R x) between new → Adds (OfSome (take (i + 1) xs) R) old new
  adds_take_more {X} {R} xs i x below at {old} {between} {new} a b =
      let taken : take (i + 1) xs ≡ take i xs ++ x ∷ [] = take_more xs i x below ∙ ap (λ (y : X). take i xs ++ y ∷ []) (sym at) in
      subst (λ (ys : List X). Adds (OfSome ys R) old new) (sym taken) (adds_of_more (take i xs) x a b)

  pub adds_take_all : {X : Type 0} {R : X → List F → F → Type 0} (xs : List X) (i : ℕ) → length xs ≤ i → {old new : List (Clause F)} → Adds (OfSome (take i xs) R) old new → Adds (OfSome xs R) old new
  adds_take_all {X} {R} xs i past {old} {new} a = subst (λ (ys : List X). Adds (OfSome ys R) old new) (take_all i xs past) a

  pub adds_map_more : {X Y : Type 0} {R : Y → List F → F → Type 0} (v : X → Y) (xs : List X) (i : ℕ) (x : X) → i < length xs → x ≡ get_or xs i x → {old between new : List (Clause F)} → Adds (OfSome (map v (take i xs)) R) old between → Adds (R (v x)) between new → Adds (OfSome (map v (take (i + 1) xs)) R) old new
  adds_map_more {X} {Y} {R} v xs i x below at {old} {between} {new} a b =
      let taken : take (i + 1) xs ≡ take i xs ++ x ∷ [] = take_more xs i x below ∙ ap (λ (y : X). take i xs ++ y ∷ []) (sym at) in
      let mapped : map v (take (i + 1) xs) ≡ map v (take i xs) ++ v x ∷ [] = ap (map v) taken ∙ map-append v (take i xs) (x ∷ []) in
      subst (λ (ys : List Y). Adds (OfSome ys R) old new) (sym mapped) (adds_of_more (map v (take i xs)) (v x) a b)

  pub adds_map_all : {X Y : Type 0} {R : Y → List F → F → Type 0} (v : X → Y) (xs : List X) (i : ℕ) → length xs ≤ i → {old new : List (Clause F)} → Adds (OfSome (map v (take i xs)) R) old new → Adds (OfSome (map v xs) R) old new
  adds_map_all {X} {Y} {R} v xs i past {old} {new} a = subst (λ (ys : List X). Adds (OfSome (map v ys) R) old new) (take_all i xs past) a

  -- a loop over the numbers below one that is this
  pub adds_below_all : {R : ℕ → List F → F → Type 0} (i n : ℕ) → i ≡ n → {old new : List (Clause F)} → Adds (OfBelow i R) old new → Adds (OfBelow n R) old new
  adds_below_all {R} i n same {old} {new} a = subst (λ (k : ℕ). Adds (OfBelow k R) old new) same a
