-- The roots of a set, found by marking the components that links enter.
use Rattle.std.proofs.Common.{◌≡◌, ◌⊎◌, ◌↔◌, ℕ, ◌+◌, ◌<◌, ◌≤◌, Bool, true, false, not, ◌||◌, List, ◌∷◌, [], ◌++◌, length, map, get_or, replicate, refl, sym, ◌∙◌, subst, arith, inl, inr, ⊎_elim}
use Rattle.std.specs.Prelude.{Result, Ok, Err, IfOk}
use Rattle.std.specs.List.{range_with_len}
use Rattle.std.proofs.lemmas.Bool.{cases_Bool, eqb-true, eq-eqb}
use Rattle.std.proofs.lemmas.List.{get_or_default}
use Rattle.std.proofs.lemmas.List.FromFn.{get_or-map-range_with_len}
use Rattle.guppy_search.specs.declared.graph_core.link.Link.{Link}
use Rattle.guppy_search.specs.declared.ix.direction.DependencyDirection.{DependencyDirection}
use Rattle.guppy_search.specs.Reach.{LinkStep}
use Rattle.guppy_search.specs.IxSet.{has, IsIn}
use Rattle.guppy_core.specs.Listing.{Stands, Ascends, IsAbsence}
use Rattle.guppy_core.specs.Sccs.{AreNumbered, InOneBlock}
use Rattle.guppy_core.specs.Roots.{EntersFrom, IsEntered, AreRoots, HasNumber}
use Rattle.guppy_search.proofs.Members.{IsIn-below}
use Rattle.guppy_core.proofs.Listings.{absence_skipped, absence_more}
use Rattle.guppy_core.proofs.Costs.{degree}
use Rattle.guppy_core.proofs.DepthFirstSteps.{LinkTo, Looked, step_at, step_place, looked_link, looked_only}
use Rattle.guppy_core.proofs.RowSets.{Gathered, IsNamed, gathered_whole}
use Rattle.guppy_core.proofs.Blocks.{same_block}

-- what place k of the links that leave x names: the number that one enters
abbrev pub EntersFromAt : {E : Type 0} → DependencyDirection → List (Link E) → List ℕ → List Bool → ℕ → ℕ → ℕ → Type 0
EntersFromAt d links numbers members x k = EntersFrom (λ a. LinkTo d (λ _. true) links a k) (HasNumber numbers) members x

module _ {E : Type 0} (d : DependencyDirection) (links : List (Link E)) (numbers : List ℕ) (members : List Bool) (x : ℕ) where
  module _ (k far : ℕ) (l : Looked d (λ _. true) links x k far true) where
    pub enters_one : IsIn members far → (get_or numbers far 0 ≡ get_or numbers x 0 → ⊥) → (c : ℕ) → EntersFromAt d links numbers members x k c ↔ (c ≡ get_or numbers far 0)
    enters_one inside apart c = (
      λ t. subst (λ z. c ≡ get_or numbers z 0) (looked_only d (λ _. true) links x k far true l t.0 t.1) (sym t.3),
      λ e. (far, looked_link d (λ _. true) links x k far true l refl, inside, sym e, λ own. apart (sym e ∙ sym own)),
    )

    -- it leads out of the set, or to the same number
    pub enters_none : (IsIn members far → get_or numbers far 0 ≡ get_or numbers x 0) → (c : ℕ) → EntersFromAt d links numbers members x k c → ⊥
    enters_none same c t =
        let is = looked_only d (λ _. true) links x k far true l t.0 t.1 in
        t.4 (sym (same (subst (IsIn members) is t.2)) ∙ subst (λ z. get_or numbers z 0 ≡ c) is t.3)

  -- all places together name the numbers that links enter
  pub enters_all : (i : ℕ) → degree d links x ≤ i → (c : ℕ) → EntersFrom (LinkStep d links) (HasNumber numbers) members x c ↔ IsNamed (EntersFromAt d links numbers members x) i c
  enters_all i all c = (
    λ t. let at = step_place d (λ _. true) links x t.0 t.1 in (at.0, (let l = at.1 in omega arith), (t.0, at.2, t.2, t.3, t.4)),
    λ t. let e = t.2 in (e.0, step_at d (λ _. true) links x t.0 e.0 e.1, e.2, e.3, e.4),
  )

-- what a position names: the numbers that links from it enter, where it is in the set
abbrev pub EntersInside : (ℕ → ℕ → Type 0) → (ℕ → ℕ → Type 0) → List Bool → ℕ → ℕ → Type 0
EntersInside Step Same members x c = IsIn members x × EntersFrom Step Same members x c

module _ (Step Same : ℕ → ℕ → Type 0) (members : List Bool) (i : ℕ) (table : List Bool) where
  -- of a position of the set
  pub inside_also : (table' : List Bool) → IsIn members i → ((c : ℕ) → IsIn table' c ↔ (IsIn table c ⊎ EntersFrom Step Same members i c)) → (c : ℕ) → IsIn table' c ↔ (IsIn table c ⊎ EntersInside Step Same members i c)
  inside_also table' inside adds c = (
    λ h. ⊎_elim inl (λ t. inr (inside, t)) ((adds c).0 h),
    λ o. (adds c).1 (⊎_elim inl (λ t. inr t.1) o),
  )

  -- all positions were taken
  pub entered_all : (n : ℕ) → Gathered (EntersInside Step Same members) (replicate n false) i table → length members ≤ i → (c : ℕ) → IsIn table c ↔ IsEntered Step Same members c
  entered_all n m all c =
      let both = gathered_whole (EntersInside Step Same members) n i table m (λ x c' t. let l = IsIn-below members x t.0 in omega arith) c in
      (λ h. let t = both.0 h in (t.0, t.1.0, t.1.1), λ t. both.1 (t.0, (t.1, t.2)))

-- the positions of the set whose number is not marked

abbrev pub is_left_out : List Bool → List ℕ → List Bool → ℕ → Bool
is_left_out members numbers table p = not (has members p) || has table (get_or numbers p 0)

abbrev pub left_out : List Bool → List ℕ → List Bool → List Bool
left_out members numbers table = map (is_left_out members numbers table) (range_with_len 0 (length members))

has-left_out : (members : List Bool) (numbers : List ℕ) (table : List Bool) (p : ℕ) → p < length members → has (left_out members numbers table) p ≡ is_left_out members numbers table p
has-left_out members numbers table p h = get_or-map-range_with_len (is_left_out members numbers table) 0 (length members) p p false h (omega arith)

neither : (a b : Bool) → ((not a || b) ≡ false) ↔ ((a ≡ true) × (b ≡ false))
neither true b = (λ h. (refl, h), λ h. h.1)
neither false b = (λ h. absurd (cc), λ h. let f = h.0 in absurd (cc))

module _ (members : List Bool) (numbers : List ℕ) (table : List Bool) where
  -- no position was taken
  pub unmarked_none : IsAbsence (left_out members numbers table) 0 []
  unmarked_none = record {
    ascends = λ i j x y p q l. absurd (cc);
    members = λ p. (λ t. absurd (let e = t.1 in cc), λ b. absurd (let l = b.0 in omega arith));
  }

  module _ (n : ℕ) (list : List ℕ) (a : IsAbsence (left_out members numbers table) n list) (within : n < length members) where
    -- the next position is a root
    pub unmarked_more : IsIn members n → has table (get_or numbers n 0) ≡ false → IsAbsence (left_out members numbers table) (n + 1) (list ++ n ∷ [])
    unmarked_more inside clear = absence_more (left_out members numbers table) n list a (has-left_out members numbers table n within ∙ (neither (has members n) (has table (get_or numbers n 0))).1 (inside, clear))

    -- the next position is no root
    pub unmarked_skipped : ((IsIn members n × (has table (get_or numbers n 0) ≡ false)) → ⊥) → IsAbsence (left_out members numbers table) (n + 1) list
    unmarked_skipped none = absence_skipped (left_out members numbers table) n list a (⊎_elim
        (λ t. t)
        (λ f. absurd (none ((neither (has members n) (has table (get_or numbers n 0))).0 (sym (has-left_out members numbers table n within) ∙ f))))
        (cases_Bool (has (left_out members numbers table) n)))

  -- all positions were taken
  pub unmarked_all : (n : ℕ) (list : List ℕ) → IsAbsence (left_out members numbers table) n list → n ≡ length members → (x : ℕ) → Stands list x ↔ (IsIn members x × (has table (get_or numbers x 0) ≡ false))
  unmarked_all n list a all x = (
    λ t. let b = (a.members x).0 t in (neither (has members x) (has table (get_or numbers x 0))).0 (sym (has-left_out members numbers table x (let l = b.0 in omega arith)) ∙ b.1),
    λ b.
        let low = IsIn-below members x b.0 in
        (a.members x).1 (omega arith, has-left_out members numbers table x low ∙ (neither (has members x) (has table (get_or numbers x 0))).1 b),
  )

-- the positions whose number no step enters are the roots, judged by the numbers
pub roots_by_numbers : (Step : ℕ → ℕ → Type 0) (members : List Bool) (numbers : List ℕ) (table : List Bool) (list : List ℕ) → ((c : ℕ) → IsIn table c ↔ IsEntered Step (HasNumber numbers) members c) → Ascends list → ((x : ℕ) → Stands list x ↔ (IsIn members x × (has table (get_or numbers x 0) ≡ false))) → AreRoots Step (λ x y. get_or numbers y 0 ≡ get_or numbers x 0) members list
roots_by_numbers Step members numbers table list marked up stands = record {
  ascends = up;
  members = λ x. (
    λ t. let b = (stands x).0 t in (b.0, λ e. absurd (let i = (marked (get_or numbers x 0)).1 e in let f = b.1 in cc)),
    λ r. (stands x).1 (r.0, ⊎_elim (λ t. absurd (r.1 ((marked (get_or numbers x 0)).0 t))) (λ f. f) (cases_Bool (has table (get_or numbers x 0)))),
  );
}

-- it is enough that two relations say the same of the set's positions
module _ (Step Same Same' : ℕ → ℕ → Type 0) (members : List Bool) where
  entered_same : ((x y : ℕ) → IsIn members x → IsIn members y → Same x y ↔ Same' x y) → (x : ℕ) → IsIn members x → IsEntered Step Same members x → IsEntered Step Same' members x
  entered_same same x inside (near, near_in, (far, step, far_in, leads, apart)) = (near, near_in, (far, step, far_in, (same x far inside far_in).0 leads, λ s. apart ((same x near inside near_in).1 s)))

-- so the roots by the one are those by the other
pub roots_same : (Step Same Same' : ℕ → ℕ → Type 0) (members : List Bool) (list : List ℕ) → ((x y : ℕ) → IsIn members x → IsIn members y → Same x y ↔ Same' x y) → AreRoots Step Same members list → AreRoots Step Same' members list
roots_same Step Same Same' members list same r = record {
  ascends = r.ascends;
  members = λ x. (
    λ t. let b = (r.members x).0 t in (b.0, λ e. b.1 (entered_same Step Same' Same members (λ y z i j. let s = same y z i j in (s.1, s.0)) x b.0 e)),
    λ b. (r.members x).1 (b.0, λ e. b.1 (entered_same Step Same Same' members same x b.0 e)),
  );
}

-- positions have the same number where they stand in one block
pub same_number : (blocks : List (List ℕ)) (numbers : List ℕ) → AreNumbered blocks numbers → (x y : ℕ) → x < length numbers → y < length numbers → (get_or numbers y 0 ≡ get_or numbers x 0) ↔ InOneBlock blocks x y
same_number blocks numbers m x y h k =
    let v = get_or numbers x 0 in
    let w = get_or numbers y 0 in
    let s = same_block blocks numbers m x y v w h k (get_or_default numbers x 0 v h) (get_or_default numbers y 0 w k) in
    (λ e. s.0 (eq-eqb v w (sym e)), λ i. sym (eqb-true v w (s.1 i)))

-- of a result that has two facts
pub both_ok : {X Y : Type 0} (r : Result X Y) (P Q S : X → Type 0) → ((x : X) → P x → Q x → S x) → IfOk r P → IfOk r Q → IfOk r S
both_ok (Ok x) P Q S f p q = f x p q
both_ok (Err e) P Q S f p q = tt
