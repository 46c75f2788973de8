-- The words of a set, read and written.
use Rattle.std.proofs.Common.{◌≡◌, ℕ, suc, zero, ◌+◌, ◌*◌, ◌/◌, ◌%◌, ◌^◌, ◌<◌, ◌≤◌, Bool, true, false, List, length, get_or, replicate, refl, sym, ap, ◌∙◌, arith, ⊎_elim, subst, eqb, w64}
use Rattle.std.specs.Prelude.{slice_index, bit_or, bit_and, ◌≢◌}
use Rattle.std.proofs.Math.ListN.{set, length-set, length-replicate}
use Rattle.std.proofs.lemmas.List.{get_or-set_same, get_or-set_other, get_or_default}
use Rattle.std.proofs.lemmas.List.FromFn.{length-map-range_with_len, get_or-map-range_with_len, fill_by_all}
use Rattle.std.proofs.lemmas.Nat.Bits.{bit_at_set_same, bit_at_set_other, bit_at-zero, shr_and_one}
use Rattle.std.proofs.lemmas.Bool.{cases_eq}
use Rattle.guppy_search.specs.IxSet.{has, is_marked, marks_of}
use Rattle.guppy_search.proofs.Members.{has-replicate}

pub length-marks_of : (words : List ℕ) (count : ℕ) → length (marks_of words count) ≡ count
length-marks_of words count = length-map-range_with_len (is_marked words) 0 count

-- a position is in the set that words hold where its bit is set
pub has-marks_of : (words : List ℕ) (count p : ℕ) → p < count → has (marks_of words count) p ≡ is_marked words p
has-marks_of words count p h = get_or-map-range_with_len (is_marked words) 0 count p p false h (omega arith)

-- one bit is set
module _ (words : List ℕ) (p : ℕ) (within : p / 64 < length words) where
  -- the words with the bit of the position set
  abbrev pub after : List ℕ
  after = set words (p / 64) (bit_or (slice_index words (p / 64)) (1 * 2 ^ (p % 64) % 2 ^ 64))

  marked_same : is_marked after p ≡ true
  marked_same =
      let low : p % 64 < 64 = omega arith in
      let at = get_or-set_same words (p / 64) (bit_or (slice_index words (p / 64)) (1 * 2 ^ (p % 64) % 2 ^ 64)) 0 within in
      rw (at, bit_at_set_same w64 (slice_index words (p / 64)) (p % 64) low) refl

  marked_other : (k : ℕ) → (k ≡ p → ⊥) → is_marked after k ≡ is_marked words k
  marked_other k differs =
      ⊎_elim
      (λ e.
      let same : k / 64 ≡ p / 64 = e in
      let low : p % 64 < 64 = omega arith in
      let other : k % 64 ≢ p % 64 = λ h. differs (omega arith) in
      let at = get_or-set_same words (p / 64) (bit_or (slice_index words (p / 64)) (1 * 2 ^ (p % 64) % 2 ^ 64)) 0 within in
      rw (same, at, bit_at_set_other w64 (slice_index words (p / 64)) (p % 64) low (k % 64) other) refl)
      (λ e.
      rw (get_or-set_other words (p / 64) (k / 64) (bit_or (slice_index words (p / 64)) (1 * 2 ^ (p % 64) % 2 ^ 64)) 0 e) refl)
      (cases_eq (k / 64) (p / 64))

  -- they hold the set with the position in it
  pub marks_of-set : (count : ℕ) → p < count → marks_of after count ≡ set (marks_of words count) p true
  marks_of-set count below = sym (fill_by_all (is_marked after) (set (marks_of words count) p true) count false (length-set (marks_of words count) p true ∙ length-marks_of words count) (λ k h.
      ⊎_elim
      (λ e.
      let in_marks : p < length (marks_of words count) = rw (length-marks_of words count) below in
      subst (λ z. get_or (set (marks_of words count) p true) z false ≡ is_marked after z) (sym e)
      (get_or-set_same (marks_of words count) p true false in_marks ∙ sym marked_same))
      (λ e.
      get_or-set_other (marks_of words count) p k true false e ∙ has-marks_of words count k h ∙ sym (marked_other k e))
      (cases_eq k p)))

  -- the bits from the count on stay clear
  pub clear-set : (count : ℕ) → p < count → ((k : ℕ) → count ≤ k → is_marked words k ≡ false) → (k : ℕ) → count ≤ k → is_marked after k ≡ false
  clear-set count below clear k h = marked_other k (λ e. omega arith) ∙ clear k h

get_or-zeros : (m i : ℕ) → get_or {A = ℕ} (replicate m 0) i 0 ≡ 0
get_or-zeros zero i = refl
get_or-zeros (suc m) zero = refl
get_or-zeros (suc m) (suc i) = get_or-zeros m i

-- words without a bit hold the empty set
pub marks_of-zeros : (m count : ℕ) → marks_of (replicate m 0) count ≡ replicate count false
marks_of-zeros m count = sym (fill_by_all (is_marked (replicate m 0)) (replicate count false) count false (length-replicate count false) (λ k h.
    has-replicate count k ∙ sym (rw (get_or-zeros m (k / 64), bit_at-zero (k % 64)) refl)))

pub zeros_clear : (m k : ℕ) → is_marked (replicate m 0) k ≡ false
zeros_clear m k = rw (get_or-zeros m (k / 64), bit_at-zero (k % 64)) refl

-- a position of the set that words hold is below their count
pub below_count : (words : List ℕ) (count p : ℕ) (view : List Bool) → marks_of words count ≡ view → p < length view → p < count
below_count words count p view is h = let e = ap length is in let l = length-marks_of words count in omega arith

-- its word is in the list
pub word_within : (words : List ℕ) (count p : ℕ) → p < count → length words ≡ count / 64 + 1 → p / 64 < length words
word_within words count p h k = omega arith

-- the word of a position of the set is in the list
pub word_there : (words : List ℕ) (count p : ℕ) (view : List Bool) → marks_of words count ≡ view → p < length view → length words ≡ count / 64 + 1 → p / 64 < length words
word_there words count p view is h room = word_within words count p (below_count words count p view is h) room

-- the bit of a position tells whether it is in the set that the words are seen as
pub has-view : (words : List ℕ) (count p : ℕ) (view : List Bool) → marks_of words count ≡ view → p < count → is_marked words p ≡ has view p
has-view words count p view is h = rw (← is) (sym (has-marks_of words count p h))

-- what the code reads
pub test-marked : (words : List ℕ) (p w : ℕ) → p / 64 < length words → w ≡ get_or words (p / 64) w → eqb (bit_and (w / 2 ^ (p % 64)) 1) 1 ≡ is_marked words p
test-marked words p w within is =
    let e : w ≡ get_or words (p / 64) 0 = is ∙ get_or_default words (p / 64) w 0 within in
    rw (shr_and_one, ← e) refl

-- what the code writes
pub marks_of-write : (words : List ℕ) (count p w : ℕ) → p < count → p / 64 < length words → w ≡ get_or words (p / 64) w → marks_of (set words (p / 64) (bit_or w (1 * 2 ^ (p % 64) % 18446744073709551616))) count ≡ set (marks_of words count) p true
marks_of-write words count p w below within is =
    let e : w ≡ get_or words (p / 64) 0 = is ∙ get_or_default words (p / 64) w 0 within in
    subst (λ (v : ℕ). marks_of (set words (p / 64) (bit_or v (1 * 2 ^ (p % 64) % 18446744073709551616))) count ≡ set (marks_of words count) p true) (sym e) (marks_of-set words p within count below)

-- no bit from the count on is set by it
pub clear-write : (words : List ℕ) (count p w : ℕ) → p < count → p / 64 < length words → w ≡ get_or words (p / 64) w → ((k : ℕ) → count ≤ k → is_marked words k ≡ false) → (k : ℕ) → count ≤ k → is_marked (set words (p / 64) (bit_or w (1 * 2 ^ (p % 64) % 18446744073709551616))) k ≡ false
clear-write words count p w below within is clear k h =
    let e : w ≡ get_or words (p / 64) 0 = is ∙ get_or_default words (p / 64) w 0 within in
    subst (λ (v : ℕ). is_marked (set words (p / 64) (bit_or v (1 * 2 ^ (p % 64) % 18446744073709551616))) k ≡ false) (sym e) (clear-set words p within count below clear k h)
