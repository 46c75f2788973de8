-- What a resolve in reverse includes, by which links its visitor accepts.
use Rattle.std.proofs.Common.{◌≡◌, ◌∙◌, ◌⊎◌, inl, inr, ⊎_elim, refl, sym, ap, subst, ℕ, suc, zero, ◌<◌, Bool, true, List, [], ◌∷◌, ◌++◌, length, Some, Contains, arith, append_assoc}
use Rattle.std.specs.Prelude.{◌↔◌, slice_get}
use Rattle.std.proofs.lemmas.List.{append-nil, length-append}
use Rattle.std.proofs.lemmas.List.Elements.{Contains-append_left}
use Rattle.guppy_search.specs.declared.graph_core.link.Link.{Link}
use Rattle.guppy_search.specs.declared.ix.direction.DependencyDirection.TheVariants.{Forward, Reverse}
use Rattle.guppy_search.specs.IxSet.{has, IsIn}
use Rattle.guppy_search.specs.Reach.{Step, LinkStep, Walk, here, step}
use Rattle.guppy_search.specs.Resolve.{JudgesResolve, IsIncluded, LeavesOne, Visits}
use Rattle.guppy_affected.proofs.Walks.{walk_from}

module _ {V : Type 0} (visits : V → ℕ → Bool → V → Type 0) (P : ℕ → Bool → Type 0) (s : V) (each : (n : ℕ) (b : Bool) (t : V) → visits s n b t → P n b × (t ≡ s)) where
  -- of a visitor that stays as it is, what holds of each answer holds of each entry of its trace
  pub each_answer : (trace : List (ℕ × Bool)) (t : V) → Visits visits s trace t → (n : ℕ) (b : Bool) → Contains trace (n, b) → P n b
  each_answer [] t steps n b (k, within, same) = absurd (omega arith)
  each_answer (e ∷ trace) t steps n b (zero, within, same) =
      let now : P e.0 e.1 = (each e.0 e.1 steps.0 steps.1).0 in
      subst (λ (entry : ℕ × Bool). P entry.0 entry.1) same now
  each_answer (e ∷ trace) t steps n b (suc k, within, same) =
      let stays = (each e.0 e.1 steps.0 steps.1).1 in
      each_answer trace t (subst (λ u. Visits visits u trace t) stays steps.2) n b (k, omega arith, same)

-- a list can be cut at each of its elements
pub cut_at : {X : Type 0} (xs : List X) (x : X) → Contains xs x → (before : List X) × (after : List X) × (xs ≡ before ++ x ∷ after)
cut_at [] x (k, within, same) = absurd (omega arith)
cut_at (y ∷ xs) x (zero, within, same) = ([], xs, ap (λ z. z ∷ xs) same)
cut_at (y ∷ xs) x (suc k, within, same) =
    let later = cut_at xs x (k, omega arith, same) in
    (y ∷ later.0, later.1, ap (λ l. y ∷ l) later.2)

module _ {E : Type 0} (keep : E → Bool) (links : List (Link E)) (initials : List Bool) (trace : List (ℕ × Bool)) (set : List Bool)
    (judges : JudgesResolve Reverse links initials trace set)
    (answers : (n : ℕ) (b : Bool) → Contains trace (n, b) → (l : Link E) → slice_get links n ≡ Some l → b ≡ keep l.edge) where
  -- a walk over kept links leads from the position to an initial one
  abbrev LeadsIn : ℕ → Type 0
  LeadsIn p = (q : ℕ) × IsIn initials q × Walk (Step Forward keep links) p q

  included_by : (room : ℕ) (before after : List (ℕ × Bool)) → length before < room → trace ≡ before ++ after → (p : ℕ) → IsIncluded Reverse links initials before p → LeadsIn p
  included_by zero before after small is p included = absurd (omega arith)
  included_by (suc room) before after small is p (inl initial) = (p, initial, here)
  included_by (suc room) before after small is p (inr (n, l, there, found, far)) =
      let cut = cut_at before (n, true) there in
      let whole : trace ≡ cut.0 ++ (n, true) ∷ (cut.1 ++ after) = is ∙ ap (λ b. b ++ after) cut.2 ∙ append_assoc cut.0 ((n, true) ∷ cut.1) after in
      let left = judges.led_to cut.0 (n, true) (cut.1 ++ after) whole in
      let shorter : length cut.0 < room = omega (arith, ap length cut.2, length-append cut.0 ((n, true) ∷ cut.1)) in
      let on = included_by room cut.0 ((n, true) ∷ (cut.1 ++ after)) shorter whole left.0.to left.2 in
      let same : Some left.0 ≡ Some l = sym left.1 ∙ found in
      let link : left.0 ≡ l = cc in
      let shown : Contains trace (n, true) = subst (λ t. Contains t (n, true)) (sym is) (Contains-append_left before after (n, true) there) in
      (on.0, on.1, walk_from (record { number = n; link = left.0; found = left.1; near = ap (λ (k : Link E). k.from) link ∙ far; far = refl; kept = sym (answers n true shown left.0 left.1) }) on.2)

  walked_in : (p q : ℕ) → Walk (Step Forward keep links) p q → IsIn set q → IsIn set p
  walked_in p q here inside = inside
  walked_in p q (step {b = b} walk s) inside =
      let leaves : LeavesOne Reverse links (IsIn set) s.number = (s.link, s.found, subst (IsIn set) (sym s.far) inside) in
      let shown = (judges.shown s.number).1 leaves in
      let accepted : shown.0 ≡ true = answers s.number shown.0 shown.1 s.link s.found ∙ s.kept in
      let there : Contains trace (s.number, true) = subst (λ (a : Bool). Contains trace (s.number, a)) accepted shown.1 in
      walked_in p b walk ((judges.included b).1 (inr (s.number, s.link, there, s.found, s.near)))

  -- the resolve includes exactly the positions from which walks over kept links lead to initial ones
  pub leads_in : (p : ℕ) → IsIn set p ↔ LeadsIn p
  leads_in p = (
    λ inside. included_by (suc (length trace)) trace [] (omega arith) (sym (append-nil trace)) p ((judges.included p).0 inside),
    λ (q, initial, walk). walked_in p q walk ((judges.included q).1 (inl initial)),
  )

module _ {E : Type 0} (inside : List Bool) (links : List (Link E)) (initials : List Bool) (trace : List (ℕ × Bool)) (set : List Bool)
    (judges : JudgesResolve Reverse links initials trace set)
    (answers : (n : ℕ) (b : Bool) → Contains trace (n, b) → (l : Link E) → slice_get links n ≡ Some l → b ≡ has inside l.to)
    (same : (p : ℕ) → IsIn inside p ↔ IsIn initials p) where
  -- where a link is accepted that leads to an initial position, the resolve includes these, and those from
  -- which a link leads to one
  pub steps_in : (p : ℕ) → IsIn set p ↔ (IsIn initials p ⊎ ((q : ℕ) × IsIn initials q × LinkStep Forward links p q))
  steps_in p = (
    λ included. ⊎_elim (λ initial. inl initial)
        (λ (n, l, there, found, far). inr (l.to, (same l.to).0 (sym (answers n true there l found)), record { number = n; link = l; found = found; near = far; far = refl; kept = refl }))
        ((judges.included p).0 included),
    λ either. ⊎_elim (λ initial. (judges.included p).1 (inl initial))
        (λ (q, initial, s).
        let leaves : LeavesOne Reverse links (IsIn set) s.number = (s.link, s.found, (judges.included s.link.to).1 (inl (subst (IsIn initials) (sym s.far) initial))) in
        let shown = (judges.shown s.number).1 leaves in
        let accepted : shown.0 ≡ true = answers s.number shown.0 shown.1 s.link s.found ∙ (same s.link.to).1 (subst (IsIn initials) (sym s.far) initial) in
        let there : Contains trace (s.number, true) = subst (λ (a : Bool). Contains trace (s.number, a)) accepted shown.1 in
        (judges.included p).1 (inr (s.number, s.link, there, s.found, s.near))) either,
  )
