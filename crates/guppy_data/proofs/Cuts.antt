-- A list that no separator cuts.
use Rattle.std.proofs.Common.{◌≡◌, ◌<◌, Bool, List, [], ◌∷◌, length, subst, sym}
use Rattle.std.specs.List.{position_or_len, slice_split}
use Rattle.std.proofs.lemmas.List.Splits.{slice_split_none}
use Rattle.std.proofs.lemmas.List.Sums.{fails_before_first}

-- where the first element that passes stands at the end, there is one part
pub slice_split-uncut : {X : Type 0} (p : X → Bool) (xs : List X) → position_or_len p xs ≡ length xs → slice_split p xs ≡ xs ∷ []
slice_split-uncut p xs uncut = slice_split_none p xs (λ k d below. fails_before_first p xs k d (subst (λ n. k < n) (sym uncut) below))
