-- The links that are walked inside a set, from the trace of a search that follows exactly the links inside.
use Rattle.std.proofs.Common.{◌≡◌, ◌⊎◌, ◌↔◌, ℕ, Bool, true, false, inl, inr, List, [], ◌∷◌, ◌++◌, map, refl, sym, ap, subst, ◌∙◌}
use Rattle.std.specs.Prelude.{Contains}
use Rattle.std.specs.List.{filter}
use Rattle.std.proofs.lemmas.List.{map-append, append-nil}
use Rattle.std.proofs.lemmas.List.Elements.{filter-append, Contains-push, Contains-append_left, Contains-push_cases}
use Rattle.guppy_search.specs.declared.ix.direction.DependencyDirection.{DependencyDirection}
use Rattle.guppy_search.specs.declared.ix.direction.DependencyDirection.TheVariants.{Forward, Reverse}
use Rattle.guppy_search.specs.declared.graph_core.link.Link.{Link}
use Rattle.guppy_search.specs.Links.{near_end, far_end, IsLedTo}
use Rattle.guppy_search.specs.IxSet.{IsIn}
use Rattle.guppy_search.specs.Reach.{LinkStep}
use Rattle.guppy_search.specs.Resolve.{EachAfter, IsShown, LeavesOne, IsIncluded, JudgesResolve, accepted_links}
use Rattle.guppy_search.specs.Walked.{IsInside, StepInside, IsWalked, AreWalked}
use Rattle.guppy_search.proofs.Lists.{nothing_in, EachAfter-nil, EachAfter-push, EachAfter-along}
use Rattle.guppy_search.proofs.Resolves.{AnswersBy, StepsAre, kept_accepted, judged_reached}

accepted-push : (trace : List (ℕ × Bool)) (e : ℕ × Bool) → accepted_links (trace ++ e ∷ []) ≡ accepted_links trace ++ accepted_links (e ∷ [])
accepted-push trace e =
    let kept = filter (λ (e : ℕ × Bool). e.1) in
    ap (map (λ (e : ℕ × Bool). e.0)) (filter-append (λ (e : ℕ × Bool). e.1) trace (e ∷ []))
    ∙ map-append (λ (e : ℕ × Bool). e.0) (kept trace) (kept (e ∷ []))

-- A link inside a set, by its ends in a direction.
module _ {E : Type 0} (set : List Bool) (l : Link E) where
  inside_from_ends : (d : DependencyDirection) → IsIn set (near_end d l) → IsIn set (far_end d l) → IsInside set l
  inside_from_ends Forward near far = (near, far)
  inside_from_ends Reverse near far = (far, near)

  -- a link inside a set begins in it
  pub near_inside : (d : DependencyDirection) → IsInside set l → IsIn set (near_end d l)
  near_inside Forward inside = inside.0
  near_inside Reverse inside = inside.1

  far_inside : (d : DependencyDirection) → IsInside set l → IsIn set (far_end d l)
  far_inside Forward inside = inside.1
  far_inside Reverse inside = inside.0

steps_inside : {E : Type 0} (d : DependencyDirection) (links : List (Link E)) (set : List Bool) → StepsAre d (IsInside set) links (StepInside (LinkStep d links) set)
steps_inside {E} d links set = record {
  step_over = λ n l found inside. (record { number = n; link = l; found = found; near = refl; far = refl; kept = refl }, near_inside set l d inside, far_inside set l d inside);
  link_of = λ a b s.
      let r = s.0 in
      let near : IsIn set (near_end d r.link) = subst (IsIn set) (sym r.near) s.1 in
      let far : IsIn set (far_end d r.link) = subst (IsIn set) (sym r.far) s.2 in
      (r.number, r.link, r.found, r.near, r.far, inside_from_ends set r.link d near far);
}

module _ {E : Type 0} (d : DependencyDirection) (links : List (Link E)) (initials : List Bool) where
  -- what a trace says of the links that it accepts
  record Accepts (trace : List (ℕ × Bool)) (listed : List ℕ) : Type 0 where
    pub once : EachAfter (λ before n. ¬ Contains before n) listed
    pub same : (n : ℕ) → Contains listed n ↔ Contains trace (n, true)
    pub led_to : EachAfter (λ before n. LeavesOne d links (λ p. IsIn initials p ⊎ IsLedTo d links before p) n) listed

  abbrev IsNewAndLed : List (ℕ × Bool) → ℕ × Bool → Type 0
  IsNewAndLed before entry = (¬ IsShown before entry.0) × LeavesOne d links (IsIncluded d links initials before) entry.0

  accepts_more : (before : List (ℕ × Bool)) (entry : ℕ × Bool) (listed : List ℕ) → IsNewAndLed before entry → Accepts before listed → Accepts (before ++ entry ∷ []) (listed ++ accepted_links (entry ∷ []))
  accepts_more before (n, true) listed new s = record {
    once = EachAfter-push _ listed n s.once (λ c. new.0 (true, (s.same n).0 c));
    same = λ m. (
      λ c. elim (Contains-push_cases listed n m c) [
        | inl k ↦ Contains-append_left before ((n, true) ∷ []) (m, true) ((s.same m).0 k)
        | inr e ↦ subst (λ z. Contains (before ++ (n, true) ∷ []) (z, true)) e (Contains-push before (n, true))
      ],
      λ c. elim (Contains-push_cases before (n, true) (m, true) c) [
        | inl k ↦ Contains-append_left listed (n ∷ []) m ((s.same m).1 k)
        | inr e ↦ subst (Contains (listed ++ n ∷ [])) (ap (λ (z : ℕ × Bool). z.0) e) (Contains-push listed n)
      ],
    );
    led_to = EachAfter-push _ listed n s.led_to
        (new.1.0, new.1.1, elim new.1.2 [ inl i ↦ inl i | inr q ↦ inr (q.0, q.1, (s.same q.0).1 q.2, q.3, q.4) ]);
  }
  accepts_more before (n, false) listed new s =
      let rest : Accepts (before ++ (n, false) ∷ []) listed = record {
        once = s.once;
        same = λ m. (
          λ c. Contains-append_left before ((n, false) ∷ []) (m, true) ((s.same m).0 c),
          λ c. elim (Contains-push_cases before (n, false) (m, true) c) [
            | inl k ↦ (s.same m).1 k
            | inr e ↦ absurd (let differ : false ≡ true = ap (λ (z : ℕ × Bool). z.1) e in cc)
          ],
        );
        led_to = s.led_to;
      } in
      subst (Accepts (before ++ (n, false) ∷ [])) (sym (append-nil listed)) rest

  module _ (set : List Bool) (trace : List (ℕ × Bool)) (reached : List Bool) (judged : JudgesResolve d links initials trace reached) (answers : AnswersBy (IsInside set) links trace) where
    accepts_all_of_it : Accepts trace (accepted_links trace)
    accepts_all_of_it =
        EachAfter-along IsNewAndLed (λ before. Accepts before (accepted_links before))
        (λ before entry new s. subst (Accepts (before ++ entry ∷ [])) (sym (accepted-push before entry)) (accepts_more before entry (accepted_links before) new s))
        trace
        (λ before entry after e. (judged.once before entry after e, judged.led_to before entry after e))
        (record { once = EachAfter-nil _; same = λ n. (λ c. absurd (nothing_in n c), λ c. absurd (nothing_in (n, true) c)); led_to = EachAfter-nil _ })

    accepted_walked : (n : ℕ) → Contains trace (n, true) ↔ IsWalked d links set (IsIn initials) n
    accepted_walked n = (
      λ c.
          let s = (judged.shown n).0 (true, c) in
          record {
            link = s.0;
            found = s.1;
            inside = (answers n true s.0 c s.1).0 refl;
            reached = (judged_reached d (IsInside set) links _ (steps_inside d links set) initials trace reached judged answers (near_end d s.0)).0 s.2;
          },
      λ w.
          let near = (judged_reached d (IsInside set) links _ (steps_inside d links set) initials trace reached judged answers (near_end d w.link)).1 w.reached in
          kept_accepted d (IsInside set) links _ (steps_inside d links set) initials trace reached judged answers n w.link w.found near w.inside,
    )

    -- the accepted links are the walked ones
    pub accepted_are_walked : AreWalked d links set (IsIn initials) (accepted_links trace)
    accepted_are_walked =
        let s = accepts_all_of_it in
        record {
          once = s.once;
          walked = λ n. (λ c. (accepted_walked n).0 ((s.same n).0 c), λ w. (s.same n).1 ((accepted_walked n).1 w));
          led_to = s.led_to;
        }
