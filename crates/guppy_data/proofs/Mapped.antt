-- What is done to each element of a list is done to its elements.
use Rattle.std.proofs.Common.{◌≡◌, ◌∙◌, refl, sym, ap, ℕ, zero, suc, ◌+◌, ◌<◌, List, [], ◌∷◌, ◌++◌, length, map, take, get_or, Contains, arith}
use Rattle.std.proofs.lemmas.List.{map_push, take_more}
use Rattle.std.proofs.lemmas.List.Elements.{Contains-append_right}

pub Contains-map : {X Y : Type 0} (f : X → Y) (xs : List X) (x : X) → Contains xs x → Contains (map f xs) (f x)
Contains-map f [] x (k, within, same) = absurd (omega arith)
Contains-map f (y ∷ ys) x (zero, within, same) = (zero, omega arith, ap f same)
Contains-map f (y ∷ ys) x (suc k, within, same) = Contains-append_right (f y ∷ []) (map f ys) (f x) (Contains-map f ys x (k, omega arith, same))

pub from_map : {X Y : Type 0} (f : X → Y) (xs : List X) (y : Y) → Contains (map f xs) y → (x : X) × Contains xs x × (f x ≡ y)
from_map f [] y (k, within, same) = absurd (omega arith)
from_map f (x ∷ xs) y (zero, within, same) = (x, (zero, omega arith, refl), same)
from_map f (x ∷ xs) y (suc k, within, same) =
    let later = from_map f xs y (k, omega arith, same) in
    (later.0, Contains-append_right (x ∷ []) xs later.0 later.1, later.2)

-- at one place of the list
module _ {X Y : Type 0} (f : X → Y) (xs : List X) (i : ℕ) (x : X) (within : i < length xs) (is : x ≡ get_or xs i x) where
  pub there_mapped : Contains (map f xs) (f x)
  there_mapped = Contains-map f xs x (i, within, sym is)

  -- and to what stands before it, with it
  pub one_more_mapped : map f (take (i + 1) xs) ≡ map f (take i xs) ++ f x ∷ []
  one_more_mapped = ap (map f) (take_more xs i x within) ∙ map_push f (take i xs) (get_or xs i x) ∙ ap (λ y. map f (take i xs) ++ f y ∷ []) (sym is)
