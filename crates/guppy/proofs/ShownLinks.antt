-- Links as visitors are shown them, and the states of visitors over a trace.
use Rattle.std.proofs.Common.{◌≡◌, ◌∙◌, sym, refl, ap, subst, ℕ, ◌<◌, List, [], ◌∷◌, Bool, Some, slice_get, length}
use Rattle.std.specs.List.{FoldsTo, Contains}
use Rattle.std.proofs.lemmas.Fn.{chained_keeps}
use Rattle.guppy_search.specs.declared.ix.direction.DependencyDirection.{DependencyDirection}
use Rattle.guppy_search.specs.declared.ix.direction.DependencyDirection.TheVariants.{Forward, Reverse}
use Rattle.guppy_search.specs.declared.graph_core.link.Link.{Link}
use Rattle.guppy_search.specs.Links.{near_end}
use Rattle.guppy_search.specs.Resolve.{IsShown, Visits, IsCallable}
use Rattle.guppy_data.specs.declared.records.PackageRecord.{PackageRecord}
use Rattle.guppy_data.specs.declared.records.LinkRecord.{LinkRecord}
use Rattle.guppy_graph.specs.Ids.{HasId}
use Rattle.guppy.specs.Query.{QueryData, IncludesId, initials_of}
use Rattle.guppy.specs.Views.{LinkData}
use Rattle.guppy.specs.Visitors.{StartsFromInitial}
use Rattle.guppy_search.proofs.Lists.{Contains-first, Contains-later}
use Rattle.guppy_graph.proofs.PackageIds.{id_is}

-- the end that a link leaves lies between the same bounds as its ends
pub near_end-below : {E : Type 0} (d : DependencyDirection) (l : Link E) (n : ℕ) → l.from < n → l.to < n → near_end d l < n
near_end-below Forward l n from to = from
near_end-below Reverse l n from to = to

-- steps of one relation over what f reads of the states of another, which keep I
pub FoldsTo-along_kept : {S T X : Type 0} (f : S → T) (I : S → Type 0) (R : S → X → S → Type 0) (Q : T → X → T → Type 0)
    (step : (s : S) (e : X) (t : S) → I s → R s e t → Q (f s) e (f t) × I t) (trace : List X) (s t : S) → I s → FoldsTo R s trace t → FoldsTo Q (f s) trace (f t)
FoldsTo-along_kept f I R Q step [] s t i h = ap f h
FoldsTo-along_kept f I R Q step (e ∷ es) s t i h = let r = step s e h.0 i h.1 in (f h.0, r.0, FoldsTo-along_kept f I R Q step es h.0 t r.1 h.2)

-- a resolve may ask a visitor whose states keep I where it may ask what f reads of them
pub IsCallable-along_kept : {E S T : Type 0} (f : S → T) (I : S → Type 0) (may_call : S → ℕ → Type 0) (may_call' : T → ℕ → Type 0) (calls : S → ℕ → Bool → S → Type 0) (calls' : T → ℕ → Bool → T → Type 0) (d : DependencyDirection) (links : List (Link E)) (initials : List Bool)
    (may : (s : S) (n : ℕ) → I s → n < length links → may_call' (f s) n → may_call s n) (step : (s : S) (e : ℕ × Bool) (t : S) → I s → calls s e.0 e.1 t → calls' (f s) e.0 e.1 (f t) × I t)
    (s : S) → I s → IsCallable may_call' calls' d links initials (f s) → IsCallable may_call calls d links initials s
IsCallable-along_kept f I may_call may_call' calls calls' d links initials may step s i callable = record {
  at = λ earlier now n once in_time steps leaves new below.
      let kept = chained_keeps _ (λ _ t. I t) (λ _ t e u k h. (step t e u k h).1) earlier s now i steps in
      may now n kept below (callable.at earlier (f now) n once in_time (FoldsTo-along_kept f I _ _ step earlier s now i steps) leaves new below);
}

-- a resolve may ask a visitor that may be called with each link, until it was called with it
module _ {S : Type 0} (may_call : S → ℕ → Type 0) (calls : S → ℕ → Bool → S → Type 0) (others : (s : S) (n : ℕ) (b : Bool) (t : S) → calls s n b t → (m : ℕ) → (m ≡ n → ⊥) → may_call s m → may_call t m) where
  stays_callable : (n : ℕ) (earlier : List (ℕ × Bool)) (s now : S) → Visits calls s earlier now → ¬ IsShown earlier n → may_call s n → may_call now n
  stays_callable n [] s now h new may = subst (λ t. may_call t n) h may
  stays_callable n (e ∷ es) s now h new may = stays_callable n es h.0 now h.2
      (λ k. new (k.0, Contains-later e (n, k.0) es k.1))
      (others s e.0 e.1 h.0 h.1 n (λ same. new (e.1, subst (λ m. Contains (e ∷ es) (m, e.1)) (sym same) (Contains-first e es))) may)

  pub IsCallable-others : {E : Type 0} (d : DependencyDirection) (links : List (Link E)) (initials : List Bool) (s : S) → ((n : ℕ) → n < length links → may_call s n) → IsCallable may_call calls d links initials s
  IsCallable-others d links initials s may = record { at = λ earlier now n once in_time steps leaves new below. stays_callable n earlier s now steps new (may n below) }

-- a chain ends at what is equal to its end
pub ends_at : {V : Type 0} (visits : V → ℕ → Bool → V → Type 0) (s : V) (trace : List (ℕ × Bool)) (t u : V) → Visits visits s trace t → u ≡ t → Visits visits s trace u
ends_at visits s trace t u h e = rw e h

some_is_one : {A : Type 0} (a b : A) → Some a ≡ Some b → a ≡ b
some_is_one a b e = cc

has_its_id : (packages : List PackageRecord) (p : ℕ) (r : PackageRecord) → slice_get packages p ≡ Some r → HasId packages r.id p
has_its_id packages p r found = rw found refl

-- the ID that decides is that of the package at the end that the link leaves
module _ (query : QueryData) (link : LinkData) (l : Link LinkRecord) (at : slice_get link.graph.links link.number ≡ Some l) (r : PackageRecord) (found : slice_get link.graph.packages (near_end query.direction l) ≡ Some r) where
  pub starts_there : IncludesId (initials_of query) r.id → StartsFromInitial query link
  starts_there includes = (l, at, (r.id, has_its_id link.graph.packages (near_end query.direction l) r found, includes))

  pub starts_back : StartsFromInitial query link → IncludesId (initials_of query) r.id
  starts_back starts =
      let same : l ≡ starts.0 = some_is_one l starts.0 (sym at ∙ starts.1) in
      let has = subst (λ (k : Link LinkRecord). HasId link.graph.packages starts.2.0 (near_end query.direction k)) (sym same) starts.2.1 in
      subst (IncludesId (initials_of query)) (id_is link.graph.packages starts.2.0 r.id (near_end query.direction l) has (has_its_id link.graph.packages (near_end query.direction l) r found)) starts.2.2
