-- Lists of components that are names alone.
use Rattle.std.proofs.Common.{◌≡◌, subst, ℕ, zero, suc, ◌<◌, ◌≤◌, List, [], ◌∷◌, ◌++◌, refl, ap, length, get_or, Contains, arith}
use Rattle.std.specs.Prelude.{◌↔◌, All}
use Rattle.std.proofs.lemmas.List.Elements.{All-contains, All-tail, Contains-append_left, Contains-push}
use Rattle.guppy_data.specs.Path.{Part}
use Rattle.guppy_folders.specs.Folders.{IsName}

module _ {X : Type 0} where
  -- with one more in front
  pub All-more : (P : X → Type 0) (x : X) (xs : List X) → P x → All P xs → (k : ℕ) (d : X) → k < length (x ∷ xs) → P (get_or (x ∷ xs) k d)
  All-more P x xs first others zero d within = first
  All-more P x xs first others (suc k) d within = others k d (omega arith)

  -- a list that isn't empty has a last element
  pub last_of : (xs : List X) → 0 < length xs → (front : List X) × (last : X) × (xs ≡ front ++ last ∷ [])
  last_of [] some = absurd (omega arith)
  last_of (x ∷ []) some = ([], x, refl)
  last_of (x ∷ (y ∷ ys)) some = let more = last_of (y ∷ ys) (omega arith) in (x ∷ more.0, more.1, ap (λ l. x ∷ l) more.2)

  not_empty : (xs : List X) (x : X) → [] ≡ xs ++ x ∷ [] → ⊥
  not_empty [] x e = absurd (cc)
  not_empty (y ∷ ys) x e = absurd (cc)

  -- and one alone
  pub same_last : (xs ys : List X) (x y : X) → xs ++ x ∷ [] ≡ ys ++ y ∷ [] → x ≡ y
  same_last [] [] x y e = cc
  same_last [] (b ∷ ys) x y e = let none : [] ≡ ys ++ y ∷ [] = cc in absurd (not_empty ys y none)
  same_last (a ∷ xs) [] x y e = let none : xs ++ x ∷ [] ≡ [] = cc in absurd (not_empty xs x (cc))
  same_last (a ∷ xs) (b ∷ ys) x y e = let later : xs ++ x ∷ [] ≡ ys ++ y ∷ [] = cc in same_last xs ys x y later

-- what comes first is a name, so the rest decides
pub names_more : (p : Part) (ps : List Part) → IsName p → All IsName (p ∷ ps) ↔ All IsName ps
names_more p ps first = (λ all. All-tail IsName p ps all, λ others. All-more IsName p ps first others)

-- of a list that a shorter one and names alone make up, the last component of a longer front is a name
pub last_is_name : (front : List Part) (last : Part) (rest folder behind : List Part) → (front ++ last ∷ []) ++ rest ≡ folder ++ behind → length folder ≤ length front → All IsName behind → IsName last
last_is_name front last rest [] behind is less names =
    All-contains IsName behind last names (subst (λ (l : List Part). Contains l last) is (Contains-append_left (front ++ last ∷ []) rest last (Contains-push front last)))
last_is_name [] last rest (x ∷ folder) behind is less names = absurd (omega arith)
last_is_name (y ∷ front) last rest (x ∷ folder) behind is less names =
    let later : (front ++ last ∷ []) ++ rest ≡ folder ++ behind = cc in
    last_is_name front last rest folder behind later (omega arith) names
