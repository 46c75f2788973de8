-- A list cut into parts.
use Rattle.std.proofs.Common.{◌≡◌, ℕ, suc, ◌+◌, ◌-◌, ◌<◌, ◌≤◌, List, [], ◌∷◌, ◌++◌, length, get_or, take, drop, refl, sym, ap, ◌∙◌, subst, arith, ⊎_elim, None}
use Rattle.std.specs.Prelude.{slice_index, slice_get, map}
use Rattle.std.specs.List.{slice_range, concat}
use Rattle.std.proofs.lemmas.Bool.{cases_lt}
use Rattle.std.proofs.lemmas.List.{take-map, drop-map, length-drop, get_or_append_left, get_or_default, get_or_push, length_push}
use Rattle.std.proofs.lemmas.Option.{slice_get-get_or}
use Rattle.std.proofs.lemmas.List.Folds.{drop_split}
use Rattle.guppy_search.proofs.Lists.{no_items}
use Rattle.guppy_core.specs.Sccs.{parts, parts_from, AreBounds, IsCut}

bounds_rest : (a : ℕ) (bounds : List ℕ) (n : ℕ) → AreBounds (a ∷ bounds) n → AreBounds bounds n
bounds_rest a bounds n up c h =
    let e : suc c + 1 ≡ suc (c + 1) = omega arith in
    let next = up (suc c) (omega arith) in
    let low : slice_index bounds c ≤ slice_index (a ∷ bounds) (suc c + 1) = next.0 in
    (subst (λ k. slice_index bounds c ≤ slice_index (a ∷ bounds) k) e low, subst (λ k. slice_index (a ∷ bounds) k ≤ n) e next.1)

module _ (xs : List ℕ) where
  parts_from-joined : (a : ℕ) (bounds : List ℕ) → AreBounds (a ∷ bounds) (length xs) → slice_index (a ∷ bounds) (length bounds) ≡ length xs → concat (parts_from a bounds xs) ≡ drop a xs
  parts_from-joined a [] up last = sym (no_items (drop a xs) (let len = length-drop a xs in omega arith))
  parts_from-joined a (b ∷ bounds) up last =
      let first = up 0 (omega arith) in
      ap (λ l. slice_range xs a b ++ l) (parts_from-joined b bounds (bounds_rest a (b ∷ bounds) (length xs) up) last) ∙ sym (drop_split xs a b first.0)

  -- parts from the list's beginning on are the list
  pub parts-joined : (bounds : List ℕ) → IsCut xs bounds → slice_index bounds 0 ≡ 0 → concat (parts bounds xs) ≡ xs
  parts-joined [] cut begins = absurd (let s = cut.some in omega arith)
  parts-joined (a ∷ bounds) cut begins = parts_from-joined a bounds cut.climb (let e : length (a ∷ bounds) - 1 ≡ length bounds = omega arith in rw e at cut.last) ∙ ap (λ z. drop z xs) begins

-- the parts that an iterator gives next, from the front and from the back
pub range-map : {X : Type 0} (f : X → ℕ) (xs : List X) (a b : ℕ) → slice_range (map f xs) a b ≡ map f (slice_range xs a b)
range-map f xs a b = ap (take (b - a)) (drop-map f a xs) ∙ take-map f (b - a) (drop a xs)

module _ (xs : List ℕ) where
  length-parts_from : (a : ℕ) (bounds : List ℕ) → length (parts_from a bounds xs) ≡ length bounds
  length-parts_from a [] = refl
  length-parts_from a (b ∷ bounds) = ap suc (length-parts_from b bounds)

  -- there is one part less than bounds
  pub length-parts : (bounds : List ℕ) → length (parts bounds xs) ≡ length bounds - 1
  length-parts [] = refl
  length-parts (a ∷ bounds) = let e = length-parts_from a bounds in omega arith

  -- the first part goes from the first bound to the second
  pub parts-first : (bounds : List ℕ) (a b : ℕ) (rest : List ℕ) → bounds ≡ a ∷ rest → 0 < length rest → b ≡ get_or rest 0 b → parts bounds xs ≡ slice_range xs a b ∷ parts rest xs
  parts-first bounds a b [] e some b_is = absurd (omega arith)
  parts-first bounds a b (c ∷ rest) e some b_is = rw (e, b_is) refl

  parts_from-last : (a : ℕ) (bounds : List ℕ) (b : ℕ) → parts_from a (bounds ++ b ∷ []) xs ≡ parts_from a bounds xs ++ slice_range xs (get_or (a ∷ bounds) (length bounds) 0) b ∷ []
  parts_from-last a [] b = refl
  parts_from-last a (c ∷ bounds) b = ap (λ l. slice_range xs a c ∷ l) (parts_from-last c bounds b)

  -- the last part goes from the last bound but one to the last
  pub parts-last : (bounds : List ℕ) (a b : ℕ) (rest : List ℕ) → bounds ≡ rest ++ b ∷ [] → 0 < length rest → a ≡ get_or rest (length rest - 1) a → parts bounds xs ≡ parts rest xs ++ slice_range xs a b ∷ []
  parts-last bounds a b [] e some a_is = absurd (omega arith)
  parts-last bounds a b (c ∷ rest) e some a_is =
      let k : length (c ∷ rest) - 1 ≡ length rest = omega arith in
      let at : a ≡ get_or (c ∷ rest) (length rest) 0 = subst (λ i. a ≡ get_or (c ∷ rest) i a) k a_is ∙ get_or_default (c ∷ rest) (length rest) a 0 (omega arith) in
      rw e (parts_from-last c rest b ∙ ap (λ z. parts_from c rest xs ++ slice_range xs z b ∷ []) (sym at))

-- the bounds without the first are bounds
pub bounds_tail : (a : ℕ) (bounds rest : List ℕ) (n : ℕ) → bounds ≡ a ∷ rest → AreBounds bounds n → AreBounds rest n
bounds_tail a bounds rest n e up = bounds_rest a rest n (subst (λ b. AreBounds b n) e up)

-- with one bound less there are fewer parts
pub parts_less : (xs bounds rest : List ℕ) (view : List (List ℕ)) → parts bounds xs ≡ view → 0 < length rest → length bounds ≡ length rest + 1 → length (parts rest xs) < length view
parts_less xs bounds rest view is some more =
    let e = ap length is in
    let f = length-parts xs bounds in
    let g = length-parts xs rest in
    omega arith

-- of one bound there are no parts
pub no_parts : (xs bounds : List ℕ) → length bounds ≤ 1 → parts bounds xs ≡ []
no_parts xs bounds few = no_items (parts bounds xs) (let e = length-parts xs bounds in omega arith)

none_at : (xs : List ℕ) (i : ℕ) → None ≡ slice_get xs i → length xs ≤ i
none_at xs i e = ⊎_elim (λ less. absurd (let some = slice_get-get_or xs i 0 less in cc)) (λ ge. ge) (cases_lt i (length xs))

-- where one bound alone is left, at the front or at the end, there is no part
pub no_parts-front : (xs : List ℕ) (a : ℕ) (bounds rest : List ℕ) → bounds ≡ a ∷ rest → None ≡ slice_get rest 0 → parts bounds xs ≡ []
no_parts-front xs a bounds rest e none = rw e (no_parts xs (a ∷ rest) (let few = none_at rest 0 none in omega arith))

-- so there are none where the last bound has none before it
pub no_parts-end : (xs : List ℕ) (b : ℕ) (bounds rest : List ℕ) → bounds ≡ rest ++ b ∷ [] → None ≡ slice_get rest (length rest - 1) → parts bounds xs ≡ []
no_parts-end xs b bounds rest e none = rw e (no_parts xs (rest ++ b ∷ []) (let few = none_at rest (length rest - 1) none in let l = length_push rest b in omega arith))

-- the first part is within the list
pub bounds_first : (a b : ℕ) (bounds rest : List ℕ) (n : ℕ) → bounds ≡ a ∷ rest → 0 < length rest → b ≡ get_or rest 0 b → AreBounds bounds n → (a ≤ b) × (b ≤ n)
bounds_first a b bounds [] n e some b_is up = absurd (omega arith)
bounds_first a b bounds (c ∷ rest) n e some b_is up =
    let first = subst (λ l. AreBounds l n) e up 0 (omega arith) in
    rw b_is first

-- and the last
pub bounds_last : (a b : ℕ) (bounds rest : List ℕ) (n : ℕ) → bounds ≡ rest ++ b ∷ [] → 0 < length rest → a ≡ get_or rest (length rest - 1) a → AreBounds bounds n → (a ≤ b) × (b ≤ n)
bounds_last a b bounds rest n e some a_is up =
    let k = length rest - 1 in
    let k_is : k + 1 ≡ length rest = omega arith in
    let last = subst (λ l. AreBounds l n) e up k (let l = length_push rest b in omega arith) in
    let a_at : a ≡ get_or (rest ++ b ∷ []) k 0 = a_is ∙ (get_or_default rest k a 0 (omega arith) ∙ sym (get_or_append_left rest (b ∷ []) 0 k (omega arith))) in
    let b_at : get_or (rest ++ b ∷ []) (k + 1) 0 ≡ b = get_or_push rest b 0 (k + 1) (sym k_is) in
    (omega arith, omega arith)

-- the bounds without the last are bounds
pub bounds_front : (b : ℕ) (bounds rest : List ℕ) (n : ℕ) → bounds ≡ rest ++ b ∷ [] → AreBounds bounds n → AreBounds rest n
bounds_front b bounds rest n e up c h =
    let next = subst (λ l. AreBounds l n) e up c (let l = length_push rest b in omega arith) in
    let low = get_or_append_left rest (b ∷ []) 0 c (omega arith) in
    let high = get_or_append_left rest (b ∷ []) 0 (c + 1) h in
    (omega arith, omega arith)
