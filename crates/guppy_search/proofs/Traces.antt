-- Traces: the states of a visitor or a filter over them, and how long they are.
use Rattle.std.proofs.Common.{◌≡◌, ℕ, ◌<◌, ◌≤◌, Bool, true, false, inl, inr, List, [], ◌∷◌, ◌++◌, length, replicate, refl, sym, ap, subst, ◌∙◌, length-append, arith}
use Rattle.std.specs.List.{FoldsTo, All}
use Rattle.std.proofs.Math.ListN.{set, length-set, length-replicate}
use Rattle.std.proofs.lemmas.Bool.{false_from_ne_true}
use Rattle.std.proofs.lemmas.Fn.{chained_keeps}
use Rattle.std.proofs.lemmas.Option.{slice_get_within}
use Rattle.std.proofs.lemmas.List.Elements.{All-nil, All-push, Contains-append_left, Contains-append_right, Contains-push}
use Rattle.guppy_search.specs.declared.ix.direction.DependencyDirection.{DependencyDirection}
use Rattle.guppy_search.specs.declared.graph_core.link.Link.{Link}
use Rattle.guppy_search.specs.IxSet.{has, IsIn, member_count}
use Rattle.guppy_search.specs.Resolve.{IsShown, ShownOnce, JudgesResolve, IsCallable}
use Rattle.guppy_search.proofs.Lists.{EachAfter-along}
use Rattle.guppy_search.proofs.Members.{member_count-replicate, member_count-le-length, member_count-set, has-replicate, member-set_cases}

-- steps of one relation over what f reads of the states of another
pub FoldsTo-along : {S T X : Type 0} (f : S → T) (R : S → X → S → Type 0) (Q : T → X → T → Type 0)
    (step : (s : S) (e : X) (t : S) → R s e t → Q (f s) e (f t)) (trace : List X) (s t : S) → FoldsTo R s trace t → FoldsTo Q (f s) trace (f t)
FoldsTo-along f R Q step [] s t h = ap f h
FoldsTo-along f R Q step (e ∷ es) s t h = (f h.0, step s e h.0 h.1, FoldsTo-along f R Q step es h.0 t h.2)

-- where the states all have I, what steps say of their answers holds of each
pub each_answer : {S X : Type 0} (R : S → X → S → Type 0) (P : X → Type 0) (I : S → Type 0)
    (step : (s : S) (e : X) (t : S) → I s → R s e t → P e × I t) (trace : List X) (s t : S) → I s → FoldsTo R s trace t → All P trace
each_answer {S} {X} R P I step trace s t i h =
    (chained_keeps R (λ es q. All P es × I q)
    (λ es q e v j k. let r = step q e v j.1 k in (All-push P es e j.0 r.0, r.1))
    trace s t (All-nil P, i) h).0

-- A visitor that a resolve may ask.
module _ {E S : Type 0} (may_call : S → ℕ → Type 0) (calls : S → ℕ → Bool → S → Type 0) (d : DependencyDirection) (links : List (Link E)) (initials : List Bool) (s : S) where
  -- one whose states are read by f, and which calls what is read
  pub IsCallable-along : {T : Type 0} (f : S → T) (may_call' : T → ℕ → Type 0) (calls' : T → ℕ → Bool → T → Type 0)
      (may : (t : S) (n : ℕ) → may_call' (f t) n → may_call t n) (step : (t : S) (n : ℕ) (b : Bool) (u : S) → calls t n b u → calls' (f t) n b (f u))
      → IsCallable may_call' calls' d links initials (f s) → IsCallable may_call calls d links initials s
  IsCallable-along f may_call' calls' may step callable = record {
    at = λ earlier now n once in_time steps leaves new below. may now n (callable.at earlier (f now) n once in_time (FoldsTo-along f _ _ (λ t e u k. step t e.0 e.1 u k) earlier s now steps) leaves new below);
  }

  -- one that no call changes
  pub IsCallable-same : (stays : (t : S) (n : ℕ) (b : Bool) (u : S) → calls t n b u → u ≡ t) → ((n : ℕ) → n < length links → may_call s n) → IsCallable may_call calls d links initials s
  IsCallable-same stays may = record {
    at = λ earlier now n once in_time steps leaves new below.
        let same : now ≡ s = chained_keeps _ (λ _ t. t ≡ s) (λ _ t e u k h. stays t e.0 e.1 u h ∙ k) earlier s now refl steps in
        subst (λ t. may_call t n) (sym same) (may n below);
  }

-- the numbers of a trace, as a set
abbrev AreMarked : ℕ → List (ℕ × Bool) → Type 0
AreMarked count trace = (s : List Bool) × (length s ≡ count) × (member_count s ≡ length trace) × ((n : ℕ) → IsIn s n → IsShown trace n)

abbrev IsNewBelow : ℕ → List (ℕ × Bool) → ℕ × Bool → Type 0
IsNewBelow count before entry = (¬ IsShown before entry.0) × (entry.0 < count)

mark_next : (count : ℕ) (before : List (ℕ × Bool)) (entry : ℕ × Bool) → IsNewBelow count before entry → AreMarked count before → AreMarked count (before ++ entry ∷ [])
mark_next count before entry new marked =
    let s = marked.0 in
    let size = marked.1 in
    let counted = marked.2 in
    let within : entry.0 < length s = let h = new.1 in omega arith in
    let more = member_count-set s entry.0 within (false_from_ne_true (has s entry.0) (λ h. new.0 (marked.3 entry.0 h))) in (
      set s entry.0 true,
      length-set s entry.0 true ∙ size,
      simp length-append (omega arith),
      λ n h. elim (member-set_cases s entry.0 n h) [
        | inl i ↦ let was = marked.3 n i in (was.0, Contains-append_left before (entry ∷ []) (n, was.0) was.1)
        | inr e ↦ subst (IsShown (before ++ entry ∷ [])) e (entry.1, Contains-push before entry)
      ],
    )

-- a trace with no link twice is no longer than there are links
pub length-trace : (count : ℕ) (trace : List (ℕ × Bool)) → ShownOnce trace → ((n : ℕ) → IsShown trace n → n < count) → length trace ≤ count
length-trace count trace once below =
    let marked : AreMarked count trace = EachAfter-along (IsNewBelow count) (AreMarked count) (mark_next count) trace
    (λ before entry after e. (once before entry after e, below entry.0 (entry.1, rw e (Contains-append_right before (entry ∷ after) entry (0, omega arith, refl)))))
    (replicate count false, length-replicate count false, member_count-replicate count, λ n h. let lacks = has-replicate count n in absurd (cc)) in
    let few = member_count-le-length marked.0 in
    let size = marked.1 in
    let counted = marked.2 in
    omega arith

-- no more links are shown than there are
pub length-judged : {E : Type 0} (d : DependencyDirection) (links : List (Link E)) (initials : List Bool) (trace : List (ℕ × Bool)) (set : List Bool) → JudgesResolve d links initials trace set → length trace ≤ length links
length-judged d links initials trace set judged =
    length-trace (length links) trace judged.once (λ n h. let l = (judged.shown n).0 h in slice_get_within links n l.0 l.1)

-- where each step adds to a list as long as there is room, the list is the trace that there is room for
pub trace_kept : {S X : Type 0} (R : S → X → S → Type 0) (items : S → List X) (room : S → ℕ)
    (step : (s : S) (e : X) (t : S) → R s e t → (room t ≡ room s) × (length (items s) < room s → items t ≡ items s ++ e ∷ []))
    (trace : List X) (s t : S) → items s ≡ [] → length trace ≤ room s → FoldsTo R s trace t → items t ≡ trace
trace_kept {S} {X} R items room step trace s t none fits h =
    (chained_keeps R (λ es q. (room q ≡ room s) × (length es ≤ room s → items q ≡ es))
    (λ es q e v j r.
    let next = step q e v r in (
      next.0 ∙ j.0,
      λ (more : length (es ++ e ∷ []) ≤ room s).
          let less = simp length-append at more in
          let kept : items q ≡ es = j.1 (omega arith) in
          let same_room = j.0 in
          let same = ap (λ (l : List X). length l) kept in
          next.1 (omega arith) ∙ ap (λ (l : List X). l ++ e ∷ []) kept,
    ))
    trace s t (refl, λ _. none) h).1 fits
