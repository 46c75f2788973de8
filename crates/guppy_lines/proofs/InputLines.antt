-- The first line of a text, and what the reading of one more line keeps.
use Rattle.std.proofs.Common.{◌≡◌, ℕ, ◌+◌, ◌<◌, Bool, true, false, cond, List, [], ◌∷◌, ◌++◌, length, take, drop, get_or, Option, refl, ◌∙◌, ap, arith, Some, None, suc, zero, rules}
use Rattle.std.specs.Prelude.{◌==◌, position, nat_lt, not, slice_get}
use Rattle.std.specs.List.{slice_split, position_or_len}
use Rattle.std.specs.Str.Lines.{lines, lines_of_parts, strip_carriage_return}
use Rattle.std.proofs.lemmas.List.Splits.{slice_split_first}
use Rattle.std.proofs.lemmas.Option.{cond_some}
use borrow.Author.Tests.{ltb-true, ltb-false}
use Rattle.std.proofs.lemmas.Bool.{false_from_ne_true, lt-ltb, le-ltb}
use Rattle.std.proofs.lemmas.List.Sums.{prefix_len-le-length, position_or_len_is}
use Rattle.memchr.specs.Find.{IsFirstByte}
use Rattle.guppy_lines.proofs.Cuts.{split_none, split_some}

abbrev is_newline : ℕ → Bool
is_newline b = b == 10

-- the first place of a byte is its position
pub first_byte : (test : ℕ → Bool) (text : List ℕ) (r : Option ℕ) → IsFirstByte test text r → r ≡ position test text
first_byte test text None nowhere =
    let end : position_or_len test text ≡ length text =
    position_or_len_is test text (length text) 0 (omega arith) (λ k below. false_from_ne_true (test (get_or text k 0)) (nowhere k (omega arith) below)) (λ l. absurd (omega arith)) in
    let past : nat_lt (length text) (length text) ≡ false = le-ltb (length text) (length text) (omega arith) in
    rw (end, past) refl
first_byte test text (Some i) (here, passes) =
    let high = here.high in
    let first : position_or_len test text ≡ i =
    position_or_len_is test text i 0 (omega arith) (λ k below. false_from_ne_true (test (get_or text k 0)) (here.before k (omega arith) below)) (λ l. passes) in
    let within : nat_lt i (length text) ≡ true = lt-ltb i (length text) high in
    rw (first, within) refl

-- a part that is not the last is a line
lines_more : (x ys : List ℕ) → lines_of_parts (x ∷ slice_split is_newline ys) ≡ strip_carriage_return x ∷ lines ys
lines_more x ys = split_some is_newline ys (λ l. lines_of_parts (x ∷ l) ≡ strip_carriage_return x ∷ lines_of_parts l) (λ w ws. refl)

-- a text with a newline begins with the line in front of it
pub lines_first : (text line : List ℕ) (i : ℕ) → position is_newline text ≡ Some i → line ≡ strip_carriage_return (take i text)
    → (lines text ≡ line ∷ lines (drop (i + 1) text)) × (i < length text)
lines_first text line i found stripped =
    let parts = cond_some (nat_lt (position_or_len is_newline text) (length text)) (position_or_len is_newline text) i found in
    let below : position_or_len is_newline text < length text = omega (arith, ltb-true, parts.0) in
    (ap lines_of_parts (slice_split_first is_newline text 0 below) ∙ lines_more (take (position_or_len is_newline text) text) (drop (position_or_len is_newline text + 1) text) ∙ rw (parts.1, stripped) refl, omega (arith, parts.1))

none_found : (b : Bool) (i : ℕ) → cond b (Some i) None ≡ None → b ≡ false
none_found true i e = cc
none_found false i e = refl

-- a text with no newline is one line
pub lines_only : (text : List ℕ) → position is_newline text ≡ None → 0 < length text → lines text ≡ text ∷ []
lines_only text none some =
    let past : nat_lt (position_or_len is_newline text) (length text) ≡ false = none_found _ _ none in
    let all : position_or_len is_newline text ≡ length text = omega (arith, ltb-false, past, prefix_len-le-length (λ b. not (is_newline b)) text) in
    let more : (length text == 0) ≡ false = search rules in
    ap lines_of_parts (split_none is_newline text all) ∙ rw more refl

-- the element that a rest begins with
pub slice_get-drop : {X : Type 0} (n : ℕ) (xs : List X) (x : X) (rest : List X) → drop n xs ≡ x ∷ rest → slice_get xs n ≡ Some x
slice_get-drop zero [] x rest e = cc
slice_get-drop zero (y ∷ ys) x rest e = cc
slice_get-drop (suc n) [] x rest e = cc
slice_get-drop (suc n) (y ∷ ys) x rest e = slice_get-drop n ys x rest e

pub take-one_more : {X : Type 0} (n : ℕ) (xs : List X) (x : X) (rest : List X) → drop n xs ≡ x ∷ rest → take (suc n) xs ≡ take n xs ++ x ∷ []
take-one_more zero [] x rest e = cc
take-one_more zero (y ∷ ys) x rest e = cc
take-one_more (suc n) [] x rest e = cc
take-one_more (suc n) (y ∷ ys) x rest e = ap (λ l. y ∷ l) (take-one_more n ys x rest e)

pub drop-one_more : {X : Type 0} (n : ℕ) (xs : List X) (x : X) (rest : List X) → drop n xs ≡ x ∷ rest → drop (suc n) xs ≡ rest
drop-one_more zero [] x rest e = cc
drop-one_more zero (y ∷ ys) x rest e = cc
drop-one_more (suc n) [] x rest e = cc
drop-one_more (suc n) (y ∷ ys) x rest e = drop-one_more n ys x rest e
