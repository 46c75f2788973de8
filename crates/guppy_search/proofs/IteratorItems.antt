-- What holds of each item that an iterator may give.
use Rattle.std.proofs.Common.{◌≡◌, ◌<◌, List, [], ◌∷◌, ◌++◌, length, sym, subst, arith}
use Rattle.std.specs.Prelude.{Option, Some, All}
use Rattle.std.specs.Iterator.{Yields, AlwaysYields, HoldsAlong}
use Rattle.std.specs.Iterator.Adapters.{copied_source, copied_steps}
use Rattle.std.specs.Slice.Iter.{iter_rest}
use Rattle.std.specs.declared.iter.Copied.{Copied}
use Rattle.std.specs.declared.slice.Iter.{Iter}
use Rattle.std.proofs.iter.Yields.{fronts, Copied-slice, gives_along}
use Rattle.std.proofs.lemmas.List.{length-append, get_or_append_left, map-id}
use Rattle.std.proofs.iter.Next.{Yields-more}
use Rattle.std.proofs.lemmas.List.Elements.{All-contains, Contains-push}

-- the next item
pub holds_next : {S A : Type 0} (P : A → Type 0) (steps : S → Option A → S → Type 0) (s t u : S) (xs : List A) (x : A) → HoldsAlong steps s (All P) → Yields steps s xs t → steps t (Some x) u → P x
holds_next P steps s t u xs x each so_far step =
    All-contains P (xs ++ x ∷ []) x (each (xs ++ x ∷ []) u (Yields-more steps s xs t x u so_far step)) (Contains-push xs x)

all_parts : {A : Type 0} (P : A → Type 0) (xs ys : List A) → All P (xs ++ ys) → All P xs
all_parts P xs ys all k d within =
    let e = length-append xs ys in
    let inside : k < length (xs ++ ys) = omega arith in
    subst P (get_or_append_left xs ys d k within) (all k d inside)

-- the elements of a slice, copied
pub holds_copied : {A : Type 0} (P : A → Type 0) (xs : List A) (s : Copied (Iter A)) → iter_rest (copied_source s) ≡ xs → All P xs → HoldsAlong (copied_steps fronts) s (All P)
holds_copied {A} P xs s rest all = gives_along (copied_steps fronts) (λ (x : A). x) (All P) xs s (subst (λ ys. AlwaysYields (copied_steps fronts) (λ (x : A). x) s ys) rest (Copied-slice s)) (λ seen more whole.
    let parts : seen ++ more ≡ xs = rw (← map-id seen) (sym whole) in
    all_parts P seen more (subst (All P) (sym parts) all))
