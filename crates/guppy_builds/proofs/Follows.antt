-- What the steps add is what follows.
use Rattle.std.proofs.Common.{◌≡◌, ◌↔◌, ℕ, ◌<◌, List, [], ◌∷◌, Some, length, inl, inr, refl, sym, subst}
use Rattle.std.specs.Prelude.{Contains}
use Rattle.guppy_closure.specs.declared.clause.Clause.{Clause}
use Rattle.guppy_closure.specs.Clauses.{Holds}
use Rattle.guppy_closure.specs.Relations.{HoldsBy, AreClausesOf}
use Rattle.guppy_closure.proofs.Relations.{holds_by}
use Rattle.guppy_features.specs.Questions.{Question}
use Rattle.guppy_builds.specs.declared.build.BuildPlace.{BuildPlace}
use Rattle.guppy_builds.specs.declared.build.BuildPlace.TheVariants.{Target, Host}
use Rattle.guppy_builds.specs.declared.build.Build.{Build}
use Rattle.guppy_builds.specs.Builds.{built, tested}
use Rattle.guppy_builds.specs.Places.{place_of}
use Rattle.guppy_builds.specs.Follows.{BuildsFor, target, test, own_macro, dependency, IsPlace, user_of, target_place}
use Rattle.guppy_builds.specs.Parts.{OfMember, OfPackageAt, OfAll}

some_same : {x y : Build} → Some x ≡ Some y → x ≡ y
some_same e = cc

module _ (q : Question) (members : List ℕ) where
  -- the same with an equal body and an equal head
  moved : (body body' : List Build) (f f' : Build) → body ≡ body' → f' ≡ f → BuildsFor q members body' f' → BuildsFor q members body f
  moved body body' f f' b e h =
      subst (λ (ys : List Build). BuildsFor q members ys f) (sym b) (subst (λ (g : Build). BuildsFor q members body' g) e h)

  of_member : (m : ℕ) → Contains members m → (body : List Build) (f : Build) → OfMember q m body f → BuildsFor q members body f
  of_member m chosen body f h =
      let t = h.0 in
      let i = h.2.1.0 in
      elim h.2.1.2 as (λ _. BuildsFor q members body f) [
        | inl w ↦ moved body [] f (built m (target_place t i)) w.0 (some_same w.1) (target m t i chosen h.1 h.2.0 h.2.1.1)
        | inr w ↦ moved body [] f (tested m (target_place t i)) w.1.0 (some_same w.1.1) (test m t i chosen h.1 h.2.0 h.2.1.1 w.0)
      ]

  of_package : (p : ℕ) (at : BuildPlace) → p < length q.graph.packages → IsPlace q at → (body : List Build) (f : Build) → OfPackageAt q p at body f → BuildsFor q members body f
  of_package p at below there body f h = elim h as (λ _. BuildsFor q members body f) [
    | inl w ↦ moved body (built p at ∷ []) f (built p Host) w.1.0 (some_same w.1.1) (own_macro p at below w.0 there)
    | inr w ↦ moved body (user_of at w.0 ∷ []) f (built w.0.to (place_of q at w.0)) w.2.1.0 (some_same w.2.1.1) (dependency w.0 at (p, below, w.1) there w.2.0)
  ]

  all_build : (body : List Build) (f : Build) → OfAll q members body f → BuildsFor q members body f
  all_build body f h = elim h as (λ _. BuildsFor q members body f) [
    | inl w ↦ of_member w.0 w.1 body f w.2
    | inr w ↦ elim w.2 as (λ _. BuildsFor q members body f) [
      | inl r ↦ of_package w.0 (Target r.0) w.1 r.1 body f r.2
      | inr r ↦ of_package w.0 Host w.1 tt body f r
    ]
  ]

  at_place : (p : ℕ) (at : BuildPlace) → p < length q.graph.packages → IsPlace q at → (body : List Build) (f : Build) → OfPackageAt q p at body f → OfAll q members body f
  at_place p (Target i) below there body f h = inr (p, below, inl (i, there, h))
  at_place p Host below there body f h = inr (p, below, inr h)

  builds_all : (body : List Build) (f : Build) → BuildsFor q members body f → OfAll q members body f
  builds_all _ _ (target m t i chosen of built_there below) =
      inl (m, chosen, (t, of, (built_there, (i, below, inl (refl, refl)))))
  builds_all _ _ (test m t i chosen of built_there below tests) =
      inl (m, chosen, (t, of, (built_there, (i, below, inr (tests, (refl, refl))))))
  builds_all _ _ (own_macro p at below is_macro there) =
      at_place p at below there (built p at ∷ []) (built p Host) (inl (is_macro, (refl, refl)))
  builds_all _ _ (dependency d at of there used) =
      at_place of.0 at of.1 there (user_of at d ∷ []) (built d.to (place_of q at d)) (inr (d, of.2, (used, (refl, refl))))

  pub what_builds : (body : List Build) (f : Build) → OfAll q members body f ↔ BuildsFor q members body f
  what_builds body f = (all_build body f, builds_all body f)

  -- the builds of a list are those that hold by the clauses
  pub builds_follow : (clauses : List (Clause Build)) (found : List Build) → AreClausesOf (BuildsFor q members) clauses → ((f : Build) → Contains found f ↔ Holds clauses f) → (f : Build) → Contains found f ↔ HoldsBy (BuildsFor q members) f
  builds_follow clauses found are holds f =
      let same = holds_by (BuildsFor q members) clauses are f in
      (λ i. same.1 ((holds f).0 i), λ h. (holds f).1 (same.0 h))
