-- What a resolve includes whose visitor answers by the link alone.
use Rattle.std.proofs.Common.{◌≡◌, ◌↔◌, ℕ, Bool, true, inl, inr, List, [], ◌∷◌, ◌++◌, refl, sym, ap, subst, ◌∙◌, arith, Some}
use Rattle.std.specs.Prelude.{slice_get, Contains}
use Rattle.std.proofs.lemmas.List.Elements.{All-contains, Contains-push_cases, Contains-append_right}
use Rattle.guppy_search.specs.declared.ix.direction.DependencyDirection.{DependencyDirection}
use Rattle.guppy_search.specs.declared.graph_core.link.Link.{Link}
use Rattle.guppy_search.specs.Links.{near_end, far_end}
use Rattle.guppy_search.specs.IxSet.{IsIn}
use Rattle.guppy_search.specs.Reach.{LinkStep, Walk, here, step, ReachedFrom, IsPlainResolve}
use Rattle.guppy_search.specs.Resolve.{LeavesOne, IsIncluded, JudgesResolve, AcceptsAll, Visits}
use Rattle.guppy_search.proofs.Lists.{nothing_in, EachAfter-along}
use Rattle.guppy_search.proofs.Traces.{each_answer}

-- each answer says whether its link is kept
abbrev pub AnswersBy : {E : Type 0} → (Link E → Type 0) → List (Link E) → List (ℕ × Bool) → Type 0
AnswersBy {E} Keeps links trace = (n : ℕ) (answer : Bool) (l : Link E) → Contains trace (n, answer) → slice_get links n ≡ Some l → (answer ≡ true) ↔ Keeps l

-- the steps are those over the kept links
pub record StepsAre {E : Type 0} (d : DependencyDirection) (Keeps : Link E → Type 0) (links : List (Link E)) (R : ℕ → ℕ → Type 0) : Type 0 where
  pub step_over : (n : ℕ) (l : Link E) → slice_get links n ≡ Some l → Keeps l → R (near_end d l) (far_end d l)
  pub link_of : (a b : ℕ) → R a b → (n : ℕ) × (l : Link E) × (slice_get links n ≡ Some l) × (near_end d l ≡ a) × (far_end d l ≡ b) × Keeps l

module _ {E : Type 0} (d : DependencyDirection) (Keeps : Link E → Type 0) (links : List (Link E)) (R : ℕ → ℕ → Type 0) (steps : StepsAre d Keeps links R) (initials : List Bool) where
  -- a link that leads on is shown, and its answer says whether it is kept
  abbrev LedAndAnswered : List (ℕ × Bool) → ℕ × Bool → Type 0
  LedAndAnswered before entry = LeavesOne d links (IsIncluded d links initials before) entry.0 × ((l : Link E) → slice_get links entry.0 ≡ Some l → (entry.1 ≡ true) ↔ Keeps l)

  abbrev EachIsReached : List (ℕ × Bool) → Type 0
  EachIsReached trace = (p : ℕ) → IsIncluded d links initials trace p → ReachedFrom R (IsIn initials) p

  reached_more : (before : List (ℕ × Bool)) (entry : ℕ × Bool) → LedAndAnswered before entry → EachIsReached before → EachIsReached (before ++ entry ∷ [])
  reached_more before entry next reached p h = elim h [
    | inl i ↦ (p, i, here)
    | inr q ↦ elim (Contains-push_cases before entry (q.0, true) q.2) [
      | inl c ↦ reached p (inr (q.0, q.1, c, q.3, q.4))
      | inr e ↦
          let led = subst (LedAndAnswered before) e next in
          let walk = reached (near_end d led.0.0) led.0.2 in
          let found = led.0.1 in
          let found_q = q.3 in
          let same : led.0.0 ≡ q.1 = cc in
          let leads = ap (λ (l : Link E). far_end d l) same ∙ q.4 in (
            walk.0,
            walk.1,
            step walk.2 (subst (R (near_end d led.0.0)) leads (steps.step_over q.0 led.0.0 found ((led.1 led.0.0 found).0 refl))),
          )
    ]
  ]

  module _ (trace : List (ℕ × Bool)) (set : List Bool) (judged : JudgesResolve d links initials trace set) (answers : AnswersBy Keeps links trace) where
    stands_in : (before : List (ℕ × Bool)) (entry : ℕ × Bool) (after : List (ℕ × Bool)) → trace ≡ before ++ entry ∷ after → Contains trace entry
    stands_in before entry after e = rw e (Contains-append_right before (entry ∷ after) entry (0, omega arith, refl))

    -- a kept link that leaves the set is accepted
    pub kept_accepted : (n : ℕ) (l : Link E) → slice_get links n ≡ Some l → IsIn set (near_end d l) → Keeps l → Contains trace (n, true)
    kept_accepted n l found near kept =
        let shown = (judged.shown n).1 (l, found, near) in
        subst (λ b. Contains trace (n, b)) ((answers n shown.0 l shown.1 found).1 kept) shown.1

    included_walk : {a b : ℕ} → Walk R a b → IsIn set a → IsIn set b
    included_walk here h = h
    included_walk (step {a} {b} {c} w r) h =
        let s = steps.link_of b c r in
        let near : IsIn set (near_end d s.1) = subst (IsIn set) (sym s.3) (included_walk w h) in
        (judged.included c).1 (inr (s.0, s.1, kept_accepted s.0 s.1 s.2 near s.5, s.2, s.4))

    -- the set is what walks over the kept links reach
    pub judged_reached : (p : ℕ) → IsIn set p ↔ ReachedFrom R (IsIn initials) p
    judged_reached p = (
      λ h. EachAfter-along LedAndAnswered EachIsReached reached_more trace
          (λ before entry after e. (judged.led_to before entry after e, λ l found. answers entry.0 entry.1 l (stands_in before entry after e) found))
          (λ q i. elim i [ inl j ↦ (q, j, here) | inr k ↦ absurd (nothing_in (k.0, true) k.2) ])
          p ((judged.included p).0 h),
      λ r. included_walk r.2 ((judged.included r.0).1 (inl r.1)),
    )

-- where each link is accepted, the set is that of a plain resolve
pub accepting_reaches : {E : Type 0} (d : DependencyDirection) (links : List (Link E)) (initials : List Bool) (trace : List (ℕ × Bool)) (set : List Bool) → JudgesResolve d links initials trace set → AcceptsAll trace → IsPlainResolve d links initials set
accepting_reaches {E} d links initials trace set judged accepts =
    let all : StepsAre d (λ (l : Link E). Unit {0}) links (LinkStep d links) = record {
      step_over = λ n l found k. record { number = n; link = l; found = found; near = refl; far = refl; kept = refl };
      link_of = λ a b s. (s.number, s.link, s.found, s.near, s.far, tt);
    } in
    judged_reached d _ links _ all initials trace set judged (λ n answer l h found. (λ e. tt, λ k. accepts n answer h))

-- a visitor that only accepts
pub accepts_all : {V : Type 0} (visits : V → ℕ → Bool → V → Type 0) (accepts : (s : V) (n : ℕ) (b : Bool) (t : V) → visits s n b t → b ≡ true) (trace : List (ℕ × Bool)) (s t : V) → Visits visits s trace t → AcceptsAll trace
accepts_all visits accepts trace s t h n answer c =
    All-contains (λ (e : ℕ × Bool). e.1 ≡ true) trace (n, answer)
    (each_answer (λ q e v. visits q e.0 e.1 v) (λ e. e.1 ≡ true) (λ q. Unit {0}) (λ q e v i k. (accepts q e.0 e.1 v k, tt)) trace s t tt h)
    c
