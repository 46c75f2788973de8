-- The nearest of the names so far.
use Rattle.std.proofs.Common.{◌≡◌, ◌∙◌, ℕ, ◌+◌, ◌<◌, ◌≤◌, List, Bor, length, map, get_or, refl, ap, subst, arith, ⊎_elim, Option, None, Some}
use Rattle.std.specs.Prelude.{MatchOption, slice_get}
use Rattle.std.proofs.lemmas.Bool.{cases_lt}
use Rattle.std.specs.Option.{option_map}
use Rattle.std.proofs.lemmas.Option.{slice_get_within, slice_get-map, slice_get-get_or}
use Rattle.guppy_arguments.specs.Nearest.{edits, IsFar, IsNearest}

module _ (word : List ℕ) (names : List (List ℕ)) where
  -- the name is the first, of those before this place, to which fewest edits lead, fewer than four
  pub record IsFirst (seen least : ℕ) (near : List ℕ) : Type 0 where
    pub place : ℕ
    pub before : place < seen
    pub at : slice_get names place ≡ Some near
    pub edits_are : edits word near ≡ least
    pub close : least < 4
    pub first : (k : ℕ) (name : List ℕ) → k < place → slice_get names k ≡ Some name → least < edits word name

  -- what is known of the names before this place
  pub record IsNearestSoFar (seen least : ℕ) (nearest : Option (List ℕ)) : Type 0 where
    pub found : MatchOption nearest (least ≡ 4) (IsFirst seen least)
    pub least_is : (k : ℕ) (name : List ℕ) → k < seen → slice_get names k ≡ Some name → least ≤ edits word name

  pub none_seen : IsNearestSoFar 0 4 None
  none_seen = record { found = refl; least_is = λ k name before at. absurd (omega arith) }

  module _ (seen least : ℕ) (name : List ℕ) (at : slice_get names seen ≡ Some name) (nearest : Option (List ℕ)) (was : IsNearestSoFar seen least nearest) where
    least_with : (bound : ℕ) → bound ≤ least → bound ≤ edits word name → (k : ℕ) (other : List ℕ) → k < seen + 1 → slice_get names k ≡ Some other → bound ≤ edits word other
    least_with bound low own k other before at_k = ⊎_elim
        (λ (less : k < seen). let le = was.least_is k other less at_k in omega arith)
        (λ (more : seen ≤ k).
        let same : k ≡ seen = omega arith in
        let here : slice_get names seen ≡ Some other = subst (λ i. slice_get names i ≡ Some other) same at_k in
        let is : name ≡ other = cc (at, here) in
        subst (λ n. bound ≤ edits word n) is own)
        (cases_lt k seen)

    below_four : (o : Option (List ℕ)) → MatchOption o (least ≡ 4) (IsFirst seen least) → least ≤ 4
    below_four None is = omega arith
    below_four (Some near) is = let close = is.close in omega arith

    -- fewer edits lead to the next name
    pub nearer : edits word name < least → IsNearestSoFar (seen + 1) (edits word name) (Some name)
    nearer less = record {
      found = record {
        place = seen;
        before = omega arith;
        at = at;
        edits_are = refl;
        close = let le = below_four nearest was.found in omega arith;
        first = λ k other before at_k. let le = was.least_is k other before at_k in omega arith;
      };
      least_is = least_with (edits word name) (omega arith) (omega arith);
    }

    still : (o : Option (List ℕ)) → MatchOption o (least ≡ 4) (IsFirst seen least) → MatchOption o (least ≡ 4) (IsFirst (seen + 1) least)
    still None is = is
    still (Some near) is = record { place = is.place; before = let less = is.before in omega arith; at = is.at; edits_are = is.edits_are; close = is.close; first = is.first }

    -- no fewer do
    pub no_nearer : least ≤ edits word name → IsNearestSoFar (seen + 1) least nearest
    no_nearer more = record { found = still nearest was.found; least_is = least_with least (omega arith) more }

  module _ (seen least : ℕ) (past : length names ≤ seen) where
    -- all names were looked at
    pub nearest_of_all : (nearest : Option (List ℕ)) → IsNearestSoFar seen least nearest → MatchOption nearest (IsFar word names) (IsNearest word names)
    nearest_of_all None is = λ k name at. (let within = slice_get_within names k name at in let four : least ≡ 4 = is.found in let le = is.least_is k name (omega arith) at in omega arith)
    nearest_of_all (Some near) is =
        let now = is.found in
        let own : edits word near ≡ least = now.edits_are in
        let low = now.close in
        record {
          place = now.place;
          at = now.at;
          close = omega arith;
          least = λ k name at. (let within = slice_get_within names k name at in let le = is.least_is k name (omega arith) at in omega arith);
          first = λ k name before at. (let le = now.first k name before at in omega arith);
        }

-- the text behind a reference stands at its place
pub text_at : (names : List (Bor (List ℕ))) (k : ℕ) (d : Bor (List ℕ)) → k < length names → slice_get (map (λ (name : Bor (List ℕ)). name.now) names) k ≡ Some (get_or names k d).now
text_at names k d within = slice_get-map (λ (name : Bor (List ℕ)). name.now) names k ∙ ap (option_map (λ (name : Bor (List ℕ)). name.now)) (slice_get-get_or names k d within)
