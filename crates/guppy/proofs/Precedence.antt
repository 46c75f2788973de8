-- What leads on in a list: walks as steps do, and so in what a set keeps of it, and back from its end.
use Rattle.std.proofs.Common.{◌≡◌, ℕ, suc, zero, ◌<◌, Bool, true, false, cond, List, [], ◌∷◌, reverse, refl, sym, subst, arith, inl, inr, Some}
use Rattle.std.specs.Prelude.{◌≢◌, slice_get}
use Rattle.std.specs.List.{filter}
use Rattle.std.proofs.lemmas.Bool.{cases_eq}
use Rattle.std.proofs.lemmas.List.{reverse-reverse}
use Rattle.guppy_search.specs.declared.ix.direction.DependencyDirection.{DependencyDirection}
use Rattle.guppy_search.specs.declared.ix.direction.DependencyDirection.TheVariants.{Forward, Reverse}
use Rattle.guppy_core.specs.Listing.{Stands, IsOnce, Precedes}
use Rattle.guppy_search.specs.Reach.{Walk, here, step}
use Rattle.guppy_core.specs.Sccs.{listed}
use Rattle.guppy_core.specs.Topo.{LeadsOn}
use Rattle.guppy_core.proofs.SetMembers.{kept_there}
use Rattle.guppy_core.proofs.Listings.{at_reversed}
use Rattle.guppy.specs.Listed.{PrecedesIn}

-- where each step to another position leads on, so does each walk
module _ (R : ℕ → ℕ → Type 0) (order : List ℕ) (once : IsOnce order) (leads : LeadsOn R order) where
  further : (x b y : ℕ) → Precedes order x b → Precedes order b y → Precedes order x y
  further x b y p q =
      let same = once p.1 q.0 b p.4 q.3 in
      (p.0, q.1, (let less = p.2 in let more = q.2 in omega arith), p.3, q.4)

  pub walk_leads : {x y : ℕ} → Walk R x y → x ≢ y → Precedes order x y
  walk_leads here other = absurd (other refl)
  walk_leads {x = x} {y = y} (step {b = b} w r) other = elim (cases_eq x b) [
    | inl start ↦ leads x y (subst (λ z. R z y) (sym start) r) other
    | inr away ↦ elim (cases_eq b y) [
      | inl end ↦ subst (λ z. Precedes order x z) end (walk_leads w away)
      | inr on ↦ further x b y (walk_leads w away) (leads b y r on)
    ]
  ]

behind_first : (b : Bool) (z y : ℕ) (xs : List ℕ) → b ≡ true → Stands xs y → Precedes (cond b (z ∷ xs) xs) z y
behind_first true z y xs h s = (0, suc s.0, omega arith, cc, s.1)
behind_first false z y xs h s = absurd (cc)

behind_kept : (b : Bool) (z x y : ℕ) (xs : List ℕ) → Precedes xs x y → Precedes (cond b (z ∷ xs) xs) x y
behind_kept true z x y xs p = (suc p.0, suc p.1, let l = p.2 in omega arith, p.3, p.4)
behind_kept false z x y xs p = p

module _ (f : ℕ → Bool) (x y : ℕ) (passes_x : f x ≡ true) (passes_y : f y ≡ true) where
  kept_precedes : (xs : List ℕ) (i j : ℕ) → i < j → slice_get xs i ≡ Some x → slice_get xs j ≡ Some y → Precedes (filter f xs) x y
  kept_precedes [] i j l a b = absurd (cc)
  kept_precedes (z ∷ zs) i zero l a b = absurd (omega arith)
  kept_precedes (z ∷ zs) zero (suc j) l a b =
      let e : z ≡ x = cc in
      subst (λ w. Precedes (cond (f z) (z ∷ filter f zs) (filter f zs)) w y) e (behind_first (f z) z y (filter f zs) (subst (λ w. f w ≡ true) (sym e) passes_x) (kept_there f zs y (j, b) passes_y))
  kept_precedes (z ∷ zs) (suc i) (suc j) l a b = behind_kept (f z) z x y (filter f zs) (kept_precedes zs i j (omega arith) a b)

reversed_precedes : (xs : List ℕ) (x y : ℕ) → Precedes xs x y → Precedes (reverse xs) y x
reversed_precedes xs x y p =
    let a = at_reversed (reverse xs) p.0 x (rw (reverse-reverse xs) p.3) in
    let b = at_reversed (reverse xs) p.1 y (rw (reverse-reverse xs) p.4) in
    (b.0, a.0, (let l = p.2 in let e = a.2 in let f = b.2 in omega arith), b.1, a.1)

pub listed_precedes : (d : DependencyDirection) (f : ℕ → Bool) (xs : List ℕ) (x y : ℕ) → f x ≡ true → f y ≡ true → Precedes xs x y → PrecedesIn d (listed d (filter f xs)) x y
listed_precedes Forward f xs x y h k p = kept_precedes f x y h k xs p.0 p.1 p.2 p.3 p.4
listed_precedes Reverse f xs x y h k p = reversed_precedes (filter f xs) x y (kept_precedes f x y h k xs p.0 p.1 p.2 p.3 p.4)
