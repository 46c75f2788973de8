-- The numbers of the elements of a list that pass a test.
use Rattle.std.proofs.Common.{◌≡◌, ℕ, suc, zero, ◌+◌, ◌<◌, Bool, true, false, cond, List, [], ◌∷◌, ◌++◌, length, get_or, refl, ap, ◌∙◌, arith, Some}
use Rattle.std.specs.Prelude.{slice_get, Contains}
use Rattle.std.specs.List.{AllByRecursion}
use Rattle.std.proofs.lemmas.List.Elements.{All-from_recursion}
use Rattle.guppy_search.specs.Links.{numbers_where}
use Rattle.guppy_search.specs.Searching.{IsAscending}

-- the number of an element that passes
pub record Passes {A : Type 0} (p : A → Bool) (i : ℕ) (xs : List A) (n : ℕ) : Type 0 where
  pub place : ℕ
  pub value : A
  pub number_is : n ≡ i + place
  pub found : slice_get xs place ≡ Some value
  pub passed : p value ≡ true

module _ {A : Type 0} (p : A → Bool) where
  further : (i : ℕ) (x : A) (xs : List A) (ns : List ℕ) → AllByRecursion (Passes p (i + 1) xs) ns → AllByRecursion (Passes p i (x ∷ xs)) ns
  further i x xs [] h = tt
  further i x xs (n ∷ ns) h = (record { place = suc (h.0.place); value = h.0.value; number_is = h.0.number_is ∙ omega arith; found = h.0.found; passed = h.0.passed }, further i x xs ns h.1)

  -- each number stands for an element that passes
  pub numbers_pass : (i : ℕ) (xs : List A) → AllByRecursion (Passes p i xs) (numbers_where p i xs)
  numbers_pass i [] = tt
  numbers_pass i (x ∷ xs) =
      elim (p x) as (λ b. p x ≡ b → AllByRecursion (Passes p i (x ∷ xs)) (cond b (i ∷ numbers_where p (i + 1) xs) (numbers_where p (i + 1) xs))) [
        | true ↦ λ e. (record { place = 0; value = x; number_is = omega arith; found = refl; passed = e }, further i x xs _ (numbers_pass (i + 1) xs))
        | false ↦ λ e. further i x xs _ (numbers_pass (i + 1) xs)
      ] refl

  -- each number that is listed is of an element that passes
  pub number_passes : (i : ℕ) (xs : List A) (k : ℕ) → k < length (numbers_where p i xs) → Passes p i xs (get_or (numbers_where p i xs) k 0)
  number_passes i xs k h = All-from_recursion (Passes p i xs) (numbers_where p i xs) (numbers_pass i xs) k 0 h

  have_cons : (y n : ℕ) (ns : List ℕ) → Contains ns n → Contains (y ∷ ns) n
  have_cons y n ns h = (suc h.0, omega arith, h.2)

  -- each element that passes has its number there
  pub numbers_have : (i : ℕ) (xs : List A) (j n : ℕ) (x : A) → n ≡ i + j → slice_get xs j ≡ Some x → p x ≡ true → Contains (numbers_where p i xs) n
  numbers_have i [] j n x same found passed = absurd (cc)
  numbers_have i (y ∷ ys) zero n x same found passed =
      let e : y ≡ x = cc in
      let passes : p y ≡ true = ap p e ∙ passed in
      let first : i ≡ n = omega arith in
      rw passes (0, omega arith, first)
  numbers_have i (y ∷ ys) (suc j) n x same found passed =
      let later : n ≡ i + 1 + j = omega arith in
      let rest : Contains (numbers_where p (i + 1) ys) n = numbers_have (i + 1) ys j n x later found passed in
      elim (p y) as (λ b. Contains (cond b (i ∷ numbers_where p (i + 1) ys) (numbers_where p (i + 1) ys)) n) [
        | true ↦ have_cons i n _ rest
        | false ↦ rest
      ]

  -- one more element
  pub numbers_where-push : (i n : ℕ) (xs : List A) (x : A) → n ≡ i + length xs → numbers_where p i (xs ++ x ∷ []) ≡ numbers_where p i xs ++ cond (p x) (n ∷ []) []
  numbers_where-push i n [] x same = let e : n ≡ i = omega arith in rw e (elim (p x) as (λ b. cond b (i ∷ []) [] ≡ [] ++ cond b (i ∷ []) []) [ true ↦ refl | false ↦ refl ])
  numbers_where-push i n (y ∷ xs) x same =
      let later : n ≡ i + 1 + length xs = omega arith in
      let rest = numbers_where-push (i + 1) n xs x later in
      elim (p y) as (λ b. cond b (i ∷ numbers_where p (i + 1) (xs ++ x ∷ [])) (numbers_where p (i + 1) (xs ++ x ∷ [])) ≡ cond b (i ∷ numbers_where p (i + 1) xs) (numbers_where p (i + 1) xs) ++ cond (p x) (n ∷ []) []) [
        | true ↦ ap (λ ns. i ∷ ns) rest
        | false ↦ rest
      ]

  ascending_cons : (i : ℕ) (ns : List ℕ) → ((q : ℕ) → q < length ns → i < get_or ns q 0) → IsAscending ns → IsAscending (i ∷ ns)
  ascending_cons i ns low up zero zero h k = absurd (omega arith)
  ascending_cons i ns low up zero (suc r) h k = low r (omega arith)
  ascending_cons i ns low up (suc q) zero h k = absurd (omega arith)
  ascending_cons i ns low up (suc q) (suc r) h k = up q r (omega arith) (omega arith)

  -- the numbers stand in ascending order
  pub numbers_ascend : (i : ℕ) (xs : List A) → IsAscending (numbers_where p i xs)
  numbers_ascend i [] = λ q r h k. absurd (omega arith)
  numbers_ascend i (x ∷ xs) =
      let later = numbers_where p (i + 1) xs in
      let rest : IsAscending later = numbers_ascend (i + 1) xs in
      let low : (q : ℕ) → q < length later → i < get_or later q 0 = λ q h. let one = (number_passes (i + 1) xs q h).number_is in omega arith in
      elim (p x) as (λ b. IsAscending (cond b (i ∷ later) later)) [ true ↦ ascending_cons i later low rest | false ↦ rest ]
