-- Sets of folders as lists of components, and prefixes of a path.
use Rattle.std.proofs.Common.{◌≡◌, ◌∙◌, ⊎_elim, refl, sym, ap, subst, ℕ, ◌<◌, ◌≤◌, Bool, true, false, ◌&&◌, List, [], ◌∷◌, ◌++◌, length, map, Contains, arith, append_assoc}
use Rattle.std.specs.Prelude.{◌↔◌}
use Rattle.std.specs.List.{Any}
use Rattle.std.specs.Cmp.Lexicographic.{pointwise}
use Rattle.std.specs.declared.vec.Vec.{Vec}
use Rattle.std.specs.declared.alloc.Global.{Global}
use Rattle.std.proofs.lemmas.Bool.{cases_lt}
use Rattle.std.proofs.lemmas.List.{append-nil, length-append}
use Rattle.std.proofs.lemmas.List.Elements.{All-nil}
use Rattle.guppy_data.specs.Path.{Part}
use Rattle.guppy_data.specs.Component.{part_shown}
use Rattle.guppy_data.specs.Sorted.{KeepsUpTo}
use Rattle.guppy_data.specs.contracts.texts.component.ComponentPartialEq.TheImpl.{eq-value}
use Rattle.guppy_data.specs.declared.texts.component.Component.{Component}
use Rattle.guppy_folders.specs.Folders.{IsName, IsInside, EndsInNoName, lists_in}
use Rattle.guppy_folders.proofs.LastNames.{All-more, last_of, last_is_name}
use Rattle.guppy_folders.proofs.Prefixes.{equal_shown, shown_equal}
use Rattle.guppy_data.proofs.Mapped.{Contains-map, from_map}

both_true : (a b : Bool) → (a && b) ≡ true → (a ≡ true) × (b ≡ true)
both_true true b h = (refl, h)
both_true false b h = absurd (cc)

-- lists of equal components show the same, and the other way round
pub parts_same : (xs ys : List Component) → pointwise eq-value.it xs ys ≡ true → map part_shown xs ≡ map part_shown ys
parts_same [] [] h = refl
parts_same [] (y ∷ ys) h = absurd (cc)
parts_same (x ∷ xs) [] h = absurd (cc)
parts_same (x ∷ xs) (y ∷ ys) h =
    let both = both_true (eq-value.it x y) (pointwise eq-value.it xs ys) h in
    let first : part_shown x ≡ part_shown y = equal_shown x y both.0 in
    let rest : map part_shown xs ≡ map part_shown ys = parts_same xs ys both.1 in
    cc

pub parts_equal : (xs ys : List Component) → map part_shown xs ≡ map part_shown ys → pointwise eq-value.it xs ys ≡ true
parts_equal [] [] e = refl
parts_equal [] (y ∷ ys) e = absurd (cc)
parts_equal (x ∷ xs) [] e = absurd (cc)
parts_equal (x ∷ xs) (y ∷ ys) e =
    let first : part_shown x ≡ part_shown y = cc in
    let rest : map part_shown xs ≡ map part_shown ys = cc in
    let now : eq-value.it x y ≡ true = shown_equal x y first in
    let later : pointwise eq-value.it xs ys ≡ true = parts_equal xs ys rest in
    rw (now, later) refl

shown : Vec Component Global → List Part
shown list = map part_shown list.items

-- a look-up in a set finds what has the same components
pub set_has : (set : List (Vec Component Global)) (list : Vec Component Global) → Any (λ x. pointwise eq-value.it x.items list.items ≡ true) set ↔ Contains (lists_in set) (map part_shown list.items)
set_has set list = (
  λ (k, x, within, same, equal). subst (λ c. Contains (lists_in set) c) (parts_same x.items list.items equal) (Contains-map (λ (l : Vec Component Global). map part_shown l.items) set x (k, within, same)),
  λ there. let one = from_map (λ (l : Vec Component Global). map part_shown l.items) set (map part_shown list.items) there in (one.1.0, one.0, one.1.1, one.1.2, parts_equal one.0.items list.items one.2),
)

-- a set has the components of the lists that it was made of
pub set_made : (items set : List (Vec Component Global)) → KeepsUpTo (λ x y. pointwise eq-value.it x.items y.items) items set → (c : List Part) → Contains (lists_in set) c ↔ Contains (lists_in items) c
set_made items set kept c = (
  λ there. let one = from_map (λ (l : Vec Component Global). map part_shown l.items) set c there in
      subst (λ c. Contains (lists_in items) c) one.2 (Contains-map (λ (l : Vec Component Global). map part_shown l.items) items one.0 (kept.no_other one.0 one.1)),
  λ there. let one = from_map (λ (l : Vec Component Global). map part_shown l.items) items c there in
      let other = kept.each one.0 one.1 in
      subst (λ c. Contains (lists_in set) c) (sym (parts_same one.0.items other.1.items other.4) ∙ one.2) (Contains-map (λ (l : Vec Component Global). map part_shown l.items) set other.1 (other.0, other.2, other.3)),
)

pub Inside-itself : (xs : List Part) → IsInside xs xs
Inside-itself xs = ([], All-nil IsName, sym (append-nil xs))

-- a folder from which a name is left out
pub Inside-shorter : (xs : List Part) (x : Part) (whole : List Part) → IsName x → IsInside (xs ++ x ∷ []) whole → IsInside xs whole
Inside-shorter xs x whole name (rest, names, is) = (x ∷ rest, All-more IsName x rest name names, is ∙ append_assoc xs (x ∷ []) rest)

pub Inside-length : (xs whole : List Part) → IsInside xs whole → length xs ≤ length whole
Inside-length xs whole (rest, names, is) = let long = ap length is ∙ length-append xs rest in omega arith

-- two folders of a path that are as long are the same
pub same_prefix : (whole xs ys : List Part) → IsInside xs whole → IsInside ys whole → length xs ≡ length ys → xs ≡ ys
same_prefix whole [] [] b d long = refl
same_prefix whole [] (y ∷ ys) b d long = absurd (omega arith)
same_prefix whole (x ∷ xs) [] b d long = absurd (omega arith)
same_prefix whole (x ∷ xs) (y ∷ ys) (rest, names, is) (other, others, is_also) long =
    let both : x ∷ (xs ++ rest) ≡ y ∷ (ys ++ other) = sym is ∙ is_also in
    let first : x ≡ y = cc in
    let behind : xs ++ rest ≡ ys ++ other = cc in
    let later : xs ≡ ys = same_prefix (xs ++ rest) xs ys (rest, names, refl) (other, others, behind) (omega arith) in
    cc

-- of the folders that hold the path, none is longer than this number
abbrev pub NoLonger : List (List Part) → List Part → ℕ → Type 0
NoLonger lists whole n = (other : List Part) → Contains lists other → IsInside other whole → length other ≤ n

-- where one is none of the folders, those that hold the path are shorter
pub shorter_than : (lists : List (List Part)) (whole xs : List Part) → IsInside xs whole → NoLonger lists whole (length xs) → (Contains lists xs → ⊥) → (other : List Part) → Contains lists other → IsInside other whole → length other < length xs
shorter_than lists whole xs inside longest missing other there also =
    ⊎_elim (λ less. less) (λ long. absurd (missing (subst (Contains lists) (same_prefix whole other xs also inside (let most = longest other there also in omega arith)) there))) (cases_lt (length other) (length xs))

-- where the last component is no name, no shorter folder holds the path
pub none_shorter : (whole xs : List Part) → IsInside xs whole → EndsInNoName xs → (other : List Part) → IsInside other whole → length other < length xs → ⊥
none_shorter whole xs (rest, names, is) ends other (behind, others, is_also) less =
    let last = last_of xs (omega arith) in
    let long = ap length last.2 ∙ length-append last.0 (last.1 ∷ []) in
    let both : (last.0 ++ last.1 ∷ []) ++ rest ≡ other ++ behind = ap (λ (l : List Part). l ++ rest) (sym last.2) ∙ (sym is ∙ is_also) in
    ends last.0 last.1 last.2 (last_is_name last.0 last.1 rest other behind both (omega arith) others)
