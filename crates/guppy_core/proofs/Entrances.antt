-- The positions that kept links enter, found link by link.
use Rattle.std.proofs.Common.{◌≡◌, ◌↔◌, ℕ, ◌<◌, ◌≤◌, Bool, true, false, List, length, refl, sym, ap, ◌∙◌, arith, ⊎_elim}
use Rattle.std.specs.Prelude.{Some, slice_get}
use Rattle.std.proofs.lemmas.Bool.{cases_eq, cases_Bool}
use Rattle.std.proofs.lemmas.Option.{slice_get_within}
use Rattle.guppy_search.specs.declared.graph_core.link.Link.{Link}
use Rattle.guppy_search.specs.declared.ix.direction.DependencyDirection.TheVariants.{Forward}
use Rattle.guppy_search.specs.Reach.{Step}
use Rattle.guppy_search.specs.IxSet.{has, IsIn}
use Rattle.guppy_core.specs.Listing.{Stands, IsAbsence}
use Rattle.guppy_core.specs.Topo.{IsSteppedTo, IsIndexRoot}

-- the link n is kept, and leads to p from another position
abbrev pub EntersAt : {E : Type 0} → (E → Bool) → List (Link E) → ℕ → ℕ → Type 0
EntersAt {E} keep links n p = (l : Link E) × (slice_get links n ≡ Some l) × (keep l.edge ≡ true) × (l.to ≡ p) × (l.from ≡ p → ⊥)

module _ {E : Type 0} (keep : E → Bool) (links : List (Link E)) where
  module _ (n : ℕ) (link : Link E) (found : slice_get links n ≡ Some link) where
    same_link : (l : Link E) → slice_get links n ≡ Some l → l ≡ link
    same_link l f = let f' = found in cc

    pub enters_one : keep link.edge ≡ true → (link.from ≡ link.to → ⊥) → (p : ℕ) → EntersAt keep links n p ↔ (p ≡ link.to)
    enters_one keeps apart p = (
      λ t. sym t.3 ∙ ap (λ (l : Link E). l.to) (same_link t.0 t.1),
      λ e. (link, found, keeps, sym e, λ own. apart (own ∙ e)),
    )

    pub enters_itself : link.from ≡ link.to → (p : ℕ) → EntersAt keep links n p → ⊥
    enters_itself own p t = t.4 (ap (λ (l : Link E). l.from) (same_link t.0 t.1) ∙ (own ∙ (ap (λ (l : Link E). l.to) (sym (same_link t.0 t.1)) ∙ t.3)))

    pub enters_dropped : keep link.edge ≡ false → (p : ℕ) → EntersAt keep links n p → ⊥
    enters_dropped drops p t = absurd (let yes = ap (λ (l : Link E). keep l.edge) (sym (same_link t.0 t.1)) ∙ t.2 in let no = drops in cc)

  -- all links together name where kept links lead from another position
  pub entered_is : (p : ℕ) → ((n : ℕ) × EntersAt keep links n p) ↔ IsSteppedTo (Step Forward keep links) p
  entered_is p = (
    λ t. (t.1.0.from, (record { number = t.0; link = t.1.0; found = t.1.1; near = refl; far = t.1.3; kept = t.1.2 }, t.1.4)),
    λ t. let step = t.1.0 in (step.number, (step.link, step.found, step.kept, step.far, λ own. t.1.1 (sym step.near ∙ own))),
  )

  pub enters_within : (i : ℕ) → length links ≤ i → (n p : ℕ) → EntersAt keep links n p → n < i
  enters_within i all n p t = let low = slice_get_within links n t.0 t.1 in omega arith

-- those to which no step leads from another
pub root_or_entered : (R : ℕ → ℕ → Type 0) (n : ℕ) (s : List Bool) (list : List ℕ) → length s ≡ n → ((p : ℕ) → IsIn s p ↔ IsSteppedTo R p) → IsAbsence s (length s) list → (p : ℕ) → Stands list p ↔ IsIndexRoot R n p
root_or_entered R n s list e m a p = (
  λ t.
      let b = (a.members p).0 t in
      ((let l = b.0 in omega arith), λ x r. ⊎_elim (λ same. same) (λ other. absurd (let h = (m p).1 (x, (r, other)) in let f = b.1 in cc)) (cases_eq x p)),
  λ r. (a.members p).1 ((let l = r.0 in omega arith), ⊎_elim (λ t. absurd (let i = (m p).0 t in i.1.1 (r.1 i.0 i.1.0))) (λ f. f) (cases_Bool (has s p))),
)
