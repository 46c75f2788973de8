-- Words combined one by one, and the sets that they hold.
use Rattle.std.proofs.Common.{◌≡◌, ◌⊎◌, ◌↔◌, ℕ, suc, zero, ◌+◌, ◌-◌, ◌/◌, ◌%◌, ◌^◌, ◌<◌, ◌≤◌, Bool, true, false, not, ◌&&◌, ◌||◌, List, ◌++◌, length, take, get_or, eqb, sum_by, count_ones, bit_and, bit_or, bit_xor, min, max, w64, refl, sym, ap, ◌∙◌, subst, arith, inl, inr, ⊎_elim}
use Rattle.std.specs.Int.{bit_at, bit_not}
use Rattle.std.proofs.Math.ListN.{set, length-set}
use Rattle.std.proofs.Math.Seq.{take-append_seam}
use Rattle.std.proofs.lemmas.Bool.{cases_lt, cases_eq}
use Rattle.std.proofs.lemmas.List.{get_or-set_same, get_or-set_other, get_or_past}
use Rattle.std.proofs.lemmas.Nat.Bits.{bit_at-lt, bit_at_and, bit_at_or, bit_at_xor, bit_at_not}
use Rattle.guppy_search.specs.Bitwise.{IsBitwise}
use Rattle.guppy_search.specs.IxSet.{has, member_count, is_marked, marks_of, IsBitSet}
use Rattle.guppy_search.proofs.Marks.{length-marks_of, has-marks_of, has-view}
use Rattle.guppy_search.proofs.Members.{member_count-le-length}
use Rattle.guppy_search.proofs.SetBits.{count-marks_of, marked_past}

-- the first k words were combined with the others
pub record AreCombined (Makes : ℕ → ℕ → ℕ → Type 0) (old others : List ℕ) (k : ℕ) (now : List ℕ) : Type 0 where
  pub size : length now ≡ length old
  pub combined : (j : ℕ) → j < k → Makes (get_or old j 0) (get_or others j 0) (get_or now j 0)
  pub fits : (j : ℕ) → j < k → get_or now j 0 < 2 ^ 64
  pub kept : (j : ℕ) → k ≤ j → get_or now j 0 ≡ get_or old j 0

module _ (Makes : ℕ → ℕ → ℕ → Type 0) (old others : List ℕ) where
  -- no word was combined
  pub combined_none : AreCombined Makes old others 0 old
  combined_none = record {
    size = refl;
    combined = λ j h. absurd (omega arith);
    fits = λ j h. absurd (omega arith);
    kept = λ j h. refl;
  }

  -- the word k was combined too
  pub combined_more : (k : ℕ) (now : List ℕ) (v : ℕ) → AreCombined Makes old others k now → k < length now → Makes (get_or now k 0) (get_or others k 0) v → v < 2 ^ 64 → AreCombined Makes old others (k + 1) (set now k v)
  combined_more k now v m within made fit = record {
    size = length-set now k v ∙ m.size;
    combined = λ j h. ⊎_elim
        (λ e. subst (λ z. Makes (get_or old z 0) (get_or others z 0) (get_or (set now k v) z 0)) (sym e) (rw (get_or-set_same now k v 0 within) (subst (λ x. Makes x (get_or others k 0) v) (m.kept k (omega arith)) made)))
        (λ e. subst (Makes (get_or old j 0) (get_or others j 0)) (sym (get_or-set_other now k j v 0 e)) (m.combined j (omega arith)))
        (cases_eq j k);
    fits = λ j h. ⊎_elim
        (λ e. subst (λ z. get_or (set now k v) z 0 < 2 ^ 64) (sym e) (rw (get_or-set_same now k v 0 within) fit))
        (λ e. subst (λ x. x < 2 ^ 64) (sym (get_or-set_other now k j v 0 e)) (m.fits j (omega arith)))
        (cases_eq j k);
    kept = λ j h. get_or-set_other now k j v 0 (λ e. omega arith) ∙ m.kept j (omega arith);
  }

has_past : (words : List ℕ) (count p : ℕ) → count ≤ p → has (marks_of words count) p ≡ false
has_past words count p h = get_or_past (marks_of words count) p false (rw (length-marks_of words count) h)

-- the first n of words and a rest are the words, where there are n
pub written_back : (now rest : List ℕ) (n : ℕ) → n ≡ length now → take n (now ++ rest) ≡ now
written_back now rest n e = rw e (take-append_seam now rest)

-- sets of as many positions have the same count
pub same_count : (words others : List ℕ) (count count' : ℕ) (set set' : List Bool) → marks_of words count ≡ set → marks_of others count' ≡ set' → length set' ≡ length set → count' ≡ count
same_count words others count count' set set' is is' same =
    let a = ap length is in
    let b = ap length is' in
    let l = length-marks_of words count in
    let l' = length-marks_of others count' in
    omega arith

-- the words are made of these and the others, pair by pair
pub record AreMade (Makes : ℕ → ℕ → ℕ → Type 0) (words others now : List ℕ) : Type 0 where
  pub size : length now ≡ length words
  pub fits : (k : ℕ) → k < length words → (get_or others k 0 < 2 ^ 64) × (get_or now k 0 < 2 ^ 64)
  pub each : (k : ℕ) → k < length words → Makes (get_or words k 0) (get_or others k 0) (get_or now k 0)

-- so they are where they were made of slices of both
pub made_of_slices : (Makes : ℕ → ℕ → ℕ → Type 0) (words others old theirs now : List ℕ) → old ≡ words → theirs ≡ others → length now ≡ length old → ((k : ℕ) → k < length old → (get_or theirs k 0 < 2 ^ 64) × (get_or now k 0 < 2 ^ 64)) → ((k : ℕ) → k < length old → Makes (get_or old k 0) (get_or theirs k 0) (get_or now k 0)) → AreMade Makes words others now
made_of_slices Makes words others old theirs now is is' size fits each = record {
  size = rw (← is) size;
  fits = rw (← is, ← is') fits;
  each = rw (← is, ← is') each;
}

-- two sets of as many positions, and the words that are made of theirs
module _ (Makes : ℕ → ℕ → ℕ → Type 0) (both : Bool → Bool → Bool) (w : IsBitwise Makes both)
    (words others now : List ℕ) (count count' len len' : ℕ) (s : IsBitSet words count len) (t : IsBitSet others count' len')
    (set set' : List Bool) (is : marks_of words count ≡ set) (is' : marks_of others count' ≡ set') (same : length set' ≡ length set)
    (made : AreMade Makes words others now) where
  counts : count' ≡ count
  counts = same_count words others count count' set set' is is' same

  marked : (p : ℕ) → is_marked now p ≡ both (is_marked words p) (is_marked others p)
  marked p =
      let room = s.room in
      let room' = t.room in
      let e = counts in
      ⊎_elim
      (λ l. let low : p % 64 < 64 = omega arith in
      w.bits (get_or words (p / 64) 0) (get_or others (p / 64) 0) (get_or now (p / 64) 0) (p % 64) (made.fits (p / 64) l).0 low (made.each (p / 64) l))
      (λ ge.
      marked_past now p (omega arith) ∙ sym (ap (λ a. both a (is_marked others p)) (marked_past words p ge) ∙ ap (λ b. both false b) (marked_past others p (omega arith)) ∙ w.clear))
      (cases_lt (p / 64) (length words))

  -- a position is in the combined set as its memberships in the two combine
  pub combined_has : (p : ℕ) → has (marks_of now count) p ≡ both (has set p) (has set' p)
  combined_has p =
      let e = counts in
      ⊎_elim
      (λ l. let l' : p < count' = omega arith in
      has-marks_of now count p l ∙ marked p ∙ ap (λ a. both a (is_marked others p)) (has-view words count p set is l) ∙ ap (λ b. both (has set p) b) (has-view others count' p set' is' l'))
      (λ ge.
      has_past now count p ge ∙ sym (ap (λ a. both a (has set' p)) (rw (← is) (has_past words count p ge)) ∙ ap (λ b. both false b) (rw (← is') (has_past others count' p (omega arith))) ∙ w.clear))
      (cases_lt p count)

  one_of : (a b c : Bool) → c ≡ both a b → c ≡ true → (a ≡ true) ⊎ (b ≡ true)
  one_of true b c e h = inl refl
  one_of false true c e h = inr refl
  one_of false false c e h = absurd (let f : c ≡ false = e ∙ w.clear in cc)

  clears : (p : ℕ) → count ≤ p → is_marked now p ≡ false
  clears p h = let e = counts in marked p ∙ ap (λ a. both a (is_marked others p)) (s.clear p h) ∙ ap (λ b. both false b) (t.clear p (omega arith)) ∙ w.clear

  counted_bits : sum_by count_ones now ≡ member_count (marks_of now count)
  counted_bits = count-marks_of now count (let r = s.room in let e = made.size in omega arith) (λ k h. (made.fits k (let e = made.size in omega arith)).1) clears

  -- the size fits
  pub combined_few : sum_by count_ones now < 2 ^ 64
  combined_few =
      let few = member_count-le-length (marks_of now count) in
      let len = length-marks_of now count in
      let small = s.small in
      let e = counted_bits in
      omega arith

  -- the combined words, with the number of their bits that are set, hold a set
  pub combined_set : (sum : ℕ) → sum ≡ sum_by count_ones now → IsBitSet now count sum
  combined_set sum counted = record {
    room = made.size ∙ s.room;
    small = s.small;
    counted = counted ∙ counted_bits;
    fit = λ p h. ⊎_elim (s.fit p) (λ i. t.fit p i) (rw (is, is') (one_of (has set p) (has set' p) (has (marks_of now count) p) (combined_has p) h));
    clear = clears;
  }

-- each operation by bits

abbrev ByDigits : (ℕ → ℕ → ℕ) → (Bool → Bool → Bool) → Type 0
ByDigits of both = (a b : ℕ) → a < 2 → b < 2 → eqb (of a b) 1 ≡ both (eqb a 1) (eqb b 1)

by_digits : (of : ℕ → ℕ → ℕ) (both : Bool → Bool → Bool) → eqb (of 0 0) 1 ≡ both false false → eqb (of 0 1) 1 ≡ both false true → eqb (of 1 0) 1 ≡ both true false → eqb (of 1 1) 1 ≡ both true true → ByDigits of both
by_digits of both p q r s zero zero h k = p
by_digits of both p q r s zero (suc zero) h k = q
by_digits of both p q r s (suc zero) zero h k = r
by_digits of both p q r s (suc zero) (suc zero) h k = s
by_digits of both p q r s (suc (suc a)) b h k = absurd (omega arith)
by_digits of both p q r s a (suc (suc b)) h k = absurd (omega arith)

-- an operation is one by bits where it makes of two words the word that a function by bits makes
module _ (Makes : ℕ → ℕ → ℕ → Type 0) (of : ℕ → ℕ → ℕ) (makes : (a b made : ℕ) → Makes a b made → made ≡ of a b) where
  by_bits : (both : Bool → Bool → Bool) → both false false ≡ false → ((a b i : ℕ) → b < 2 ^ 64 → i < 64 → eqb (bit_at (of a b) i) 1 ≡ both (eqb (bit_at a i) 1) (eqb (bit_at b i) 1)) → IsBitwise Makes both
  by_bits both clear bits = record {
    bits = λ a b made i k l m. rw (makes a b made m) (bits a b i k l);
    clear = clear;
  }

-- one of the two, and not the other
abbrev pub differ : Bool → Bool → Bool
differ true b = not b
differ false b = b

-- the first without the second
abbrev pub except : Bool → Bool → Bool
except true b = not b
except false b = false

abbrev pub and_not : ℕ → ℕ → ℕ
and_not a b = bit_and a (bit_not w64 b)

module _ (Makes : ℕ → ℕ → ℕ → Type 0) where
  pub or_bits : ((a b made : ℕ) → Makes a b made → made ≡ bit_or a b) → IsBitwise Makes (λ x y. x || y)
  or_bits makes = by_bits Makes bit_or makes (λ x y. x || y) refl (λ a b i k l.
      rw (bit_at_or a b i) (by_digits max (λ x y. x || y) refl refl refl refl (bit_at a i) (bit_at b i) (bit_at-lt a i) (bit_at-lt b i)))

  pub and_bits : ((a b made : ℕ) → Makes a b made → made ≡ bit_and a b) → IsBitwise Makes (λ x y. x && y)
  and_bits makes = by_bits Makes bit_and makes (λ x y. x && y) refl (λ a b i k l.
      rw (bit_at_and a b i) (by_digits min (λ x y. x && y) refl refl refl refl (bit_at a i) (bit_at b i) (bit_at-lt a i) (bit_at-lt b i)))

  pub xor_bits : ((a b made : ℕ) → Makes a b made → made ≡ bit_xor a b) → IsBitwise Makes differ
  xor_bits makes = by_bits Makes bit_xor makes differ refl (λ a b i k l.
      rw (bit_at_xor a b i) (by_digits (λ x y. (x + y) % 2) differ refl refl refl refl (bit_at a i) (bit_at b i) (bit_at-lt a i) (bit_at-lt b i)))

  pub and_not_bits : ((a b made : ℕ) → Makes a b made → made ≡ and_not a b) → IsBitwise Makes except
  and_not_bits makes = by_bits Makes and_not makes except refl (λ a b i k l.
      rw (bit_at_and a (bit_not w64 b) i, bit_at_not w64 b i k l) (by_digits (λ x y. min x (1 - y)) except refl refl refl refl (bit_at a i) (bit_at b i) (bit_at-lt a i) (bit_at-lt b i)))

-- what the set has at a position, in words of membership

pub in_union : (a b c : Bool) → c ≡ (a || b) → (c ≡ true) ↔ ((a ≡ true) ⊎ (b ≡ true))
in_union true b c e = (λ h. inl refl, λ h. e)
in_union false true c e = (λ h. inr refl, λ h. e)
in_union false false c e = (λ h. absurd (cc), λ h. ⊎_elim (λ (f : false ≡ true). absurd (cc)) (λ (f : false ≡ true). absurd (cc)) h)

pub in_intersection : (a b c : Bool) → c ≡ (a && b) → (c ≡ true) ↔ ((a ≡ true) × (b ≡ true))
in_intersection true true c e = (λ h. (refl, refl), λ h. e)
in_intersection true false c e = (λ h. absurd (cc), λ h. let f = h.1 in absurd (cc))
in_intersection false b c e = (λ h. absurd (cc), λ h. let f = h.0 in absurd (cc))

pub in_difference : (a b c : Bool) → c ≡ except a b → (c ≡ true) ↔ ((a ≡ true) × (¬ (b ≡ true)))
in_difference true true c e = (λ h. absurd (cc), λ h. absurd (h.1 refl))
in_difference true false c e = (λ h. (refl, λ (f : false ≡ true). cc), λ h. e)
in_difference false b c e = (λ h. absurd (cc), λ h. let f = h.0 in absurd (cc))

pub in_symmetric_difference : (a b c : Bool) → c ≡ differ a b → (c ≡ true) ↔ (((a ≡ true) × (¬ (b ≡ true))) ⊎ ((b ≡ true) × (¬ (a ≡ true))))
in_symmetric_difference true true c e = (λ h. absurd (cc), λ h. ⊎_elim (λ o. absurd (o.1 refl)) (λ o. absurd (o.1 refl)) h)
in_symmetric_difference true false c e = (λ h. inl (refl, λ (f : false ≡ true). cc), λ h. e)
in_symmetric_difference false true c e = (λ h. inr (refl, λ (f : false ≡ true). cc), λ h. e)
in_symmetric_difference false false c e = (λ h. absurd (cc), λ h. ⊎_elim (λ o. let f = o.0 in absurd (cc)) (λ o. let f = o.0 in absurd (cc)) h)
