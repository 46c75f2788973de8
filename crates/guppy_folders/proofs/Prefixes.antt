-- When a path is inside a folder, component by component.
use Rattle.std.proofs.Common.{◌≡◌, refl, sym, ap, subst, true, false, List, [], ◌∷◌, ◌++◌, length, None, Some, arith}
use Rattle.std.specs.Prelude.{◌↔◌, Option, All}
use Rattle.std.specs.Option.{option_eq}
use Rattle.std.specs.Iterator.{YieldsFirstBy}
use Rattle.std.proofs.lemmas.List.Elements.{All-same}
use Rattle.std.proofs.lemmas.Slice.Eq.{bytes_eq-Decides}
use Rattle.guppy_data.specs.Path.{Part}
use Rattle.guppy_data.specs.Component.{part_shown, parts_left}
use Rattle.guppy_data.specs.contracts.texts.component.ComponentPartialEq.TheImpl.{eq-value}
use Rattle.guppy_data.specs.declared.texts.component.Component.{Component}
use Rattle.guppy_data.specs.declared.texts.component.Component.TheVariants.{RootDir, CurDir, ParentDir, Normal}
use Rattle.guppy_data.specs.declared.texts.component.Components.{Components}
use Rattle.guppy_folders.specs.Folders.{IsName, IsInside}

-- nothing in front of it: names alone
pub Inside-nothing : (path : List Part) → IsInside [] path ↔ All IsName path
Inside-nothing path = (λ (rest, names, is). All-same IsName path rest is names, λ names. (path, names, refl))

-- with one more in front of both
Inside-more : (x : Part) (xs ys : List Part) → IsInside xs ys ↔ IsInside (x ∷ xs) (x ∷ ys)
Inside-more x xs ys = (λ (rest, names, is). (rest, names, ap (λ l. x ∷ l) is), λ (rest, names, is). (rest, names, (cc)))

Inside-over : (x : Part) (xs : List Part) → IsInside (x ∷ xs) [] → ⊥
Inside-over x xs (rest, names, is) = absurd (cc)

Inside-first : (x y : Part) (xs ys : List Part) → IsInside (x ∷ xs) (y ∷ ys) → x ≡ y
Inside-first x y xs ys (rest, names, is) = cc

-- a path that is cut where the folder would end
pub inside_split : (folder front rest : List Part) → length front ≡ length folder → IsInside folder (front ++ rest) ↔ ((front ≡ folder) × All IsName rest)
inside_split [] [] rest long = (λ h. (refl, (Inside-nothing rest).0 h), λ h. (Inside-nothing rest).1 h.1)
inside_split [] (y ∷ front) rest long = absurd (omega arith)
inside_split (x ∷ folder) [] rest long = absurd (omega arith)
inside_split (x ∷ folder) (y ∷ front) rest long =
    let later = inside_split folder front rest (omega arith) in
    let more = Inside-more x folder (front ++ rest) in (
      λ h.
          let first = Inside-first x y folder (front ++ rest) h in
          let both = later.0 (more.1 (subst (λ (p : Part). IsInside (x ∷ folder) (p ∷ (front ++ rest))) (sym first) h)) in
          let behind : front ≡ folder = both.0 in
          (cc, both.1),
      λ (same, names).
          let first : x ≡ y = cc in
          let behind : front ≡ folder = cc in
          subst (λ (p : Part). IsInside (x ∷ folder) (p ∷ (front ++ rest))) first (more.0 (later.1 (behind, names))),
    )

-- components that are equal show the same
pub equal_shown : (a b : Component) → eq-value.it a b ≡ true → part_shown a ≡ part_shown b
equal_shown RootDir RootDir h = refl
equal_shown CurDir CurDir h = refl
equal_shown ParentDir ParentDir h = refl
equal_shown (Normal x) (Normal y) h = ap Part.Name ((bytes_eq-Decides x.now y.now).0 h)
equal_shown a b h = absurd (cc)

pub shown_equal : (a b : Component) → part_shown a ≡ part_shown b → eq-value.it a b ≡ true
shown_equal RootDir RootDir h = refl
shown_equal CurDir CurDir h = refl
shown_equal ParentDir ParentDir h = refl
shown_equal (Normal x) (Normal y) h = (bytes_eq-Decides x.now y.now).1 (cc)
shown_equal a b h = absurd (cc)

module _ (part : Component) (rest after : Components) (front behind : List Part) where
  -- the component stands next, so the rest behind it decides
  pub next_same : (next : Option Component) → YieldsFirstBy part_shown parts_left rest next after → option_eq eq-value.it next (Some part) ≡ true
      → front ≡ part_shown part ∷ behind → IsInside front (parts_left rest) ↔ IsInside behind (parts_left after)
  next_same None step same is = absurd (cc)
  next_same (Some other) step same is =
      let first : part_shown other ≡ part_shown part = equal_shown other part same in
      rw (is, step, first) (let more = Inside-more (part_shown part) behind (parts_left after) in (more.1, more.0))

  -- another one stands next, or none
  pub next_other : (next : Option Component) → YieldsFirstBy part_shown parts_left rest next after → option_eq eq-value.it next (Some part) ≡ false
      → front ≡ part_shown part ∷ behind → IsInside front (parts_left rest) → ⊥
  next_other None step other is begins = Inside-over (part_shown part) behind (rw (is, step.0) at begins)
  next_other (Some there) step other is begins =
      let first : part_shown part ≡ part_shown there = Inside-first _ _ _ _ (rw (is, step) at begins) in
      let same : eq-value.it there part ≡ true = shown_equal there part (sym first) in
      absurd (cc)
