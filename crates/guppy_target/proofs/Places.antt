-- Where a list's first element of some kind stands.
use Rattle.std.proofs.Common.{◌≡◌, ℕ, ◌≤◌, Bool, true, false, cond, ltb, List, Some, None, length, arith}
use Rattle.std.specs.Prelude.{position}
use Rattle.std.specs.List.{position_or_len}
use Rattle.std.proofs.lemmas.List.Sums.{prefix_len-le-length}
use Rattle.std.proofs.lemmas.Bool.Decides.{nat_tests}

some_place : (b : Bool) (m n : ℕ) → cond b (Some m) None ≡ Some n → n ≡ m
some_place true m n e = cc
some_place false m n e = absurd (cc)

no_place : (b : Bool) (m : ℕ) → cond b (Some m) None ≡ None → b ≡ false
no_place true m e = absurd (cc)
no_place false m e = cc

module _ (p : ℕ → Bool) (xs : List ℕ) where
  pub place_is : (n : ℕ) → position p xs ≡ Some n → n ≡ position_or_len p xs
  place_is n e = some_place (ltb (position_or_len p xs) (length xs)) (position_or_len p xs) n e

  pub place-le : position_or_len p xs ≤ length xs
  place-le = prefix_len-le-length _ xs

  pub no_place_is : position p xs ≡ None → length xs ≡ position_or_len p xs
  no_place_is e =
      let past : ltb (position_or_len p xs) (length xs) ≡ false = no_place _ _ e in
      let most = place-le in
      grind (arith, nat_tests)
