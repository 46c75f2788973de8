-- How many bits of words are set, and how many positions are in the set that they hold.
use Rattle.std.proofs.Common.{◌≡◌, ℕ, suc, zero, ◌+◌, ◌-◌, ◌*◌, ◌/◌, ◌%◌, ◌^◌, ◌<◌, ◌≤◌, Bool, true, false, List, [], ◌∷◌, length, map, get_or, sum_by, count_ones, eqb, refl, sym, ap, ◌∙◌, arith}
use Rattle.std.specs.Int.{bit_at}
use Rattle.std.specs.Int.Count.{ones_step}
use Rattle.std.specs.List.{range_with_len}
use Rattle.std.proofs.Math.Nat.{pow-suc}
use Rattle.std.proofs.lemmas.Nat.{ones_le_self}
use Rattle.std.proofs.lemmas.Nat.Bits.{bit_at_lowest, bit_at-suc, bit_at-zero}
use Rattle.std.proofs.lemmas.List.{get_or_past}
use Rattle.std.proofs.lemmas.List.Sums.{sum_by-cons}
use Rattle.guppy_search.specs.IxSet.{member_count, is_marked, marks_of}

-- how many of the n numbers from a on pass
module _ (f : ℕ → Bool) where
  abbrev passing : ℕ → ℕ → ℕ
  passing a n = member_count (map f (range_with_len a n))

  passing_none : (a n : ℕ) → ((k : ℕ) → a ≤ k → f k ≡ false) → passing a n ≡ 0
  passing_none a zero none = refl
  passing_none a (suc n) none = rw (none a (omega arith)) (passing_none (a + 1) n (λ k h. none k (omega arith)))

  passing_split : (a b m n : ℕ) → a + m ≡ b → passing a (m + n) ≡ passing a m + passing b n
  passing_split a b zero n at = let e : b ≡ a = omega arith in let z : zero + n ≡ n = omega arith in rw (e, z) (omega arith)
  passing_split a b (suc m) n at =
      let e : suc m + n ≡ suc (m + n) = omega arith in
      let at' : a + 1 + m ≡ b = omega arith in
      let rest = passing_split (a + 1) b m n at' in
      rw e (elim (f a) as (λ v. member_count (v ∷ map f (range_with_len (a + 1) (m + n))) ≡ member_count (v ∷ map f (range_with_len (a + 1) m)) + passing b n) [ true ↦ omega arith | false ↦ rest ])

passing_same : (f g : ℕ → Bool) (a b n : ℕ) → ((i j k : ℕ) → k < n → i ≡ a + k → j ≡ b + k → f i ≡ g j) → passing f a n ≡ passing g b n
passing_same f g a b zero same = refl
passing_same f g a b (suc n) same =
    let rest = passing_same f g (a + 1) (b + 1) n (λ i j k h d e. same i j (k + 1) (omega arith) (omega arith) (omega arith)) in
    rw (same a b 0 (omega arith) (omega arith) (omega arith))
    (elim (g b) as (λ v. member_count (v ∷ map f (range_with_len (a + 1) n)) ≡ member_count (v ∷ map g (range_with_len (b + 1) n))) [ true ↦ omega arith | false ↦ rest ])

first_bit : (b : ℕ) (s : List Bool) → b < 2 → member_count (eqb b 1 ∷ s) ≡ b + member_count s
first_bit zero s h = omega arith
first_bit (suc zero) s h = refl
first_bit (suc (suc b)) s h = absurd (omega arith)

-- in a word
passing_bits : (d w : ℕ) → w < 2 ^ d → passing (λ i. eqb (bit_at w i) 1) 0 d ≡ count_ones w
passing_bits zero w h = let few = ones_le_self w in omega arith
passing_bits (suc d) w h =
    let double = pow-suc 2 d in
    let half : w / 2 < 2 ^ d = omega arith in
    let rest = passing_same (λ i. eqb (bit_at w i) 1) (λ i. eqb (bit_at (w / 2) i) 1) (0 + 1) 0 d (λ i j k l e e'. let s : i ≡ suc j = omega arith in rw (s, bit_at-suc w j) refl) in
    let low : w % 2 < 2 = omega arith in
    let first = first_bit (w % 2) (map (λ i. eqb (bit_at w i) 1) (range_with_len (0 + 1) d)) low in
    rw (bit_at_lowest w) (first ∙ ap (λ n. w % 2 + n) (rest ∙ passing_bits d (w / 2) half) ∙ sym (ones_step w))

-- in all words, each of the width
passing_marks : (width : ℕ) → width ≡ 64 → (words : List ℕ) (n : ℕ) → n ≡ 64 * length words → ((k : ℕ) → k < length words → get_or words k 0 < 2 ^ width) → passing (is_marked words) 0 n ≡ sum_by count_ones words
passing_marks width is [] n all fits = let e : n ≡ 0 = omega arith in rw e refl
passing_marks width is (w ∷ words) n all fits =
    let more : n ≡ width + (n - width) = omega arith in
    let left : n - width ≡ 64 * length words = omega arith in
    let first = passing_same (is_marked (w ∷ words)) (λ i. eqb (bit_at w i) 1) 0 0 width (λ i j k h d e. let q : i / 64 ≡ 0 = omega arith in let r : i % 64 ≡ j = omega arith in rw (q, r) refl) in
    let later = passing_same (is_marked (w ∷ words)) (is_marked words) width 0 (n - width) (λ i j k h d e. let q : i / 64 ≡ suc (j / 64) = omega arith in let r : i % 64 ≡ j % 64 = omega arith in rw (q, r) refl) in
    let word = passing_bits width w (fits 0 (omega arith)) in
    let rest = passing_marks width is words (n - width) left (λ k h. fits (suc k) (omega arith)) in
    let split = passing_split (is_marked (w ∷ words)) 0 width width (n - width) (omega arith) in
    let sum : sum_by count_ones (w ∷ words) ≡ count_ones w + sum_by count_ones words = sum_by-cons count_ones w words in
    ap (passing (is_marked (w ∷ words)) 0) more ∙ split ∙ omega arith

-- where no bit is set from the count on
pub count-marks_of : (words : List ℕ) (count : ℕ) → count ≤ 64 * length words → ((k : ℕ) → k < length words → get_or words k 0 < 2 ^ 64) → ((p : ℕ) → count ≤ p → is_marked words p ≡ false) → sum_by count_ones words ≡ member_count (marks_of words count)
count-marks_of words count room fits clear =
    let e : 64 * length words ≡ count + (64 * length words - count) = omega arith in
    let all = passing_marks 64 refl words (64 * length words) refl fits in
    let split = passing_split (is_marked words) 0 count count (64 * length words - count) (omega arith) in
    let none = passing_none (is_marked words) count (64 * length words - count) clear in
    sym all ∙ ap (passing (is_marked words) 0) e ∙ split ∙ omega arith

-- no bit is set past the words
pub marked_past : (words : List ℕ) (p : ℕ) → length words ≤ p / 64 → is_marked words p ≡ false
marked_past words p h = rw (get_or_past words (p / 64) 0 h, bit_at-zero (p % 64)) refl
