-- What the steps add is what follows.
use Rattle.std.proofs.Common.{◌≡◌, ◌↔◌, ℕ, ◌<◌, List, [], ◌∷◌, Option, Some, length, inl, inr, refl, sym, subst}
use Rattle.std.specs.Prelude.{Contains}
use Rattle.std.specs.Option.{option_map_or}
use Rattle.std.proofs.lemmas.Option.{slice_get_within}
use Rattle.guppy_data.specs.declared.records.PackageRecord.{PackageRecord}
use Rattle.guppy_data.specs.declared.texts.named_feature.NamedFeatureDep.{NamedFeatureDep}
use Rattle.guppy_closure.specs.declared.clause.Clause.{Clause}
use Rattle.guppy_closure.specs.Clauses.{Holds}
use Rattle.guppy_closure.specs.Relations.{HoldsBy, AreClausesOf}
use Rattle.guppy_closure.proofs.Relations.{holds_by}
use Rattle.guppy_features.specs.declared.fact.BuildPlatform.{BuildPlatform}
use Rattle.guppy_features.specs.declared.fact.BuildPlatform.TheVariants.{Target, Host}
use Rattle.guppy_features.specs.declared.fact.Fact.{Fact}
use Rattle.guppy_features.specs.declared.options.Initial.{Initial}
use Rattle.guppy_features.specs.declared.options.StandardFeatures.{StandardFeatures}
use Rattle.guppy_features.specs.declared.options.StandardFeatures.TheVariants.{None as NoFeatures, Default, All as AllFeatures}
use Rattle.guppy_features.specs.Facts.{part, feature}
use Rattle.guppy_features.specs.Dependencies.{DependencyData}
use Rattle.guppy_features.specs.Questions.{Question, side_of}
use Rattle.guppy_features.specs.Adding.{Either, OfSome, OfBelow}
use Rattle.guppy_features.specs.Needs.{IsUse, NeedsWhere}
use Rattle.guppy_features.specs.Follows.{FollowsFor, chosen, default_features, all_features, asked, switches, needs, needs_feature, IsRoot, IsDependency, HasValue, feature_count}
use Rattle.guppy_features.specs.Parts.{HasStandard, HasRootsOn, HasRoots, FollowsOn, FollowsOf}

some_same : {x y : Fact} → Some x ≡ Some y → x ≡ y
some_same e = cc

module _ (q : Question) where
  -- what all steps add
  abbrev pub AllOf : List Fact → Fact → Type 0
  AllOf = Either (OfSome q.options.initials.items (HasRoots q)) (OfBelow (length q.graph.packages) (FollowsOf q))

  -- the same with an equal body and an equal head
  moved : (body body' : List Fact) (f f' : Fact) → body ≡ body' → f' ≡ f → FollowsFor q body' f' → FollowsFor q body f
  moved body body' f f' b e h = subst (λ (ys : List Fact). FollowsFor q ys f) (sym b) (subst (λ (g : Fact). FollowsFor q body' g) e h)

  standard_follows : (i : Initial) (s : BuildPlatform) → IsRoot q i s → (standard : StandardFeatures) → i.standard ≡ standard → (body : List Fact) (f : Fact) → HasStandard q i.position s standard body f → FollowsFor q body f
  standard_follows i s root NoFeatures is body f h = absurd h
  standard_follows i s root Default is body f h = moved body [] f f h.0 refl (default_features i s root is h.1)
  standard_follows i s root AllFeatures is body f h = moved body [] f (feature i.position s h.0) h.2.0 (some_same h.2.1) (all_features i s h.0 root is h.1)

  roots_follow : (i : Initial) (s : BuildPlatform) → IsRoot q i s → (body : List Fact) (f : Fact) → HasRootsOn q s i body f → FollowsFor q body f
  roots_follow i s root body f h = elim h as (λ _. FollowsFor q body f) [
    | inl w ↦ moved body [] f (part i.position s) w.0 (some_same w.1) (chosen i s root)
    | inr k ↦ elim k as (λ _. FollowsFor q body f) [
      | inl w ↦ standard_follows i s root i.standard refl body f w
      | inr w ↦ moved body w.2.0 f f w.2.1 refl (asked i s w.0 root w.1 w.2.2)
    ]
  ]

  needed_follows : (d : DependencyData) (s : BuildPlatform) (used : Fact) → IsDependency q d → IsUse q s d used → (body : List Fact) (f : Fact) → NeedsWhere q s d used body f → FollowsFor q body f
  needed_follows d s used of used_there body f h = elim h as (λ _. FollowsFor q body f) [
    | inl w ↦ moved body (used ∷ []) f (part d.to (side_of q s d)) w.1.0 (some_same w.1.1) (needs d s used of used_there w.0)
    | inr k ↦ elim k as (λ _. FollowsFor q body f) [
      | inl w ↦ moved body (used ∷ []) f f w.1.0 refl (needs_feature d s used of used_there (inl (w.0, w.1.1)))
      | inr w ↦ moved body (used ∷ []) f f w.2.1.0 refl (needs_feature d s used of used_there (inr (w.0, w.1, w.2.0, w.2.1.1)))
    ]
  ]

  on_side_follows : (p : ℕ) (s : BuildPlatform) → p < length q.graph.packages → (body : List Fact) (f : Fact) → FollowsOn q p s body f → FollowsFor q body f
  on_side_follows p s below body f h = elim h as (λ _. FollowsFor q body f) [
    | inl w ↦ needed_follows w.0 s w.2.0 (p, below, w.1) w.2.1 body f w.2.2
    | inr w ↦ moved body (feature p s w.0 ∷ w.2.2.0) f f w.2.2.1 refl (switches p s w.0 w.2.0 w.2.1 w.2.2.2)
  ]

  all_follow : (body : List Fact) (f : Fact) → AllOf body f → FollowsFor q body f
  all_follow body f h = elim h as (λ _. FollowsFor q body f) [
    | inl w ↦ elim w.2 as (λ _. FollowsFor q body f) [
      | inl r ↦ roots_follow w.0 Target (w.1, refl) body f r
      | inr r ↦ roots_follow w.0 Host (w.1, r.0) body f r.1
    ]
    | inr w ↦ elim w.2 as (λ _. FollowsFor q body f) [
      | inl r ↦ on_side_follows w.0 Target w.1 body f r
      | inr r ↦ on_side_follows w.0 Host w.1 body f r
    ]
  ]

  of_root : (i : Initial) (s : BuildPlatform) → IsRoot q i s → (body : List Fact) (f : Fact) → HasRootsOn q s i body f → AllOf body f
  of_root i Target root body f h = inl (i, root.0, inl h)
  of_root i Host root body f h = inl (i, root.0, inr (root.1, h))

  of_package : (p : ℕ) (s : BuildPlatform) → p < length q.graph.packages → (body : List Fact) (f : Fact) → FollowsOn q p s body f → AllOf body f
  of_package p Target below body f h = inr (p, below, inl h)
  of_package p Host below body f h = inr (p, below, inr h)

  count_above : (p n : ℕ) (value : NamedFeatureDep) → HasValue q p n value → n < feature_count q p
  count_above p n value h =
      subst (λ (o : Option PackageRecord). n < option_map_or (λ r. length r.named_features.entries) o 0) (sym h.2) (slice_get_within h.0.named_features.entries n h.1 h.3)

  follows_all : (body : List Fact) (f : Fact) → FollowsFor q body f → AllOf body f
  follows_all _ _ (chosen i s root) = of_root i s root [] (part i.position s) (inl (refl, refl))
  follows_all _ f (default_features i s root is e) =
      of_root i s root [] f (inr (inl (subst (λ (x : StandardFeatures). HasStandard q i.position s x [] f) (sym is) (refl, e))))
  follows_all _ _ (all_features i s n root is below) =
      of_root i s root [] (feature i.position s n) (inr (inl (subst (λ (x : StandardFeatures). HasStandard q i.position s x [] (feature i.position s n)) (sym is) (n, below, (refl, refl)))))
  follows_all gate f (asked i s value root among gives) = of_root i s root gate f (inr (inr (value, among, (gate, refl, gives))))
  follows_all _ f (switches p s n value {gate} has gives) =
      of_package p s (slice_get_within q.graph.packages p has.0 has.2) (feature p s n ∷ gate) f (inr (n, count_above p n value has, (value, has, (gate, refl, gives))))
  follows_all _ _ (needs d s used of used_there on) =
      of_package of.0 s of.1 (used ∷ []) (part d.to (side_of q s d)) (inl (d, of.2, (used, used_there, inl (on, (refl, refl)))))
  follows_all _ f (needs_feature d s used of used_there asks) =
      of_package of.0 s of.1 (used ∷ []) f (inl (
        d,
        of.2,
        (
          used,
          used_there,
          inr (elim asks [
            | inl w ↦ inl (w.0, (refl, w.1))
            | inr w ↦ inr (w.0, w.1, (w.2, (refl, w.3)))
          ]),
        ),
      ))

  pub what_follows : (body : List Fact) (f : Fact) → AllOf body f ↔ FollowsFor q body f
  what_follows body f = (all_follow body f, follows_all body f)

-- the facts of a list are those that hold by the clauses
pub facts_follow : (q : Question) (clauses : List (Clause Fact)) (facts : List Fact) → AreClausesOf (FollowsFor q) clauses → ((f : Fact) → Contains facts f ↔ Holds clauses f) → (f : Fact) → Contains facts f ↔ HoldsBy (FollowsFor q) f
facts_follow q clauses facts are holds f =
    let same = holds_by (FollowsFor q) clauses are f in
    (λ i. same.1 ((holds f).0 i), λ h. (holds f).1 (same.0 h))
