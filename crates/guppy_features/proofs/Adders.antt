-- What each step adds, of what the steps within it add.
use Rattle.std.proofs.Common.{◌≡◌, ℕ, Bool, true, false, not, ◌&&◌, List, Option, Some, None, ◌∙◌, inl, inr, refl, sym, subst, arith}
use Rattle.std.specs.Prelude.{IsTrue, Contains, length, slice_get}
use Rattle.std.specs.Str.{bytes_eq}
use Rattle.std.specs.declared.string.String.{String}
use Rattle.std.specs.declared.vec.Vec.{Vec}
use Rattle.std.specs.declared.alloc.Global.{Global}
use Rattle.guppy_data.specs.declared.records.PackageRecord.{PackageRecord}
use Rattle.guppy_data.specs.declared.texts.named_feature.NamedFeatureDep.{NamedFeatureDep}
use Rattle.guppy_data.specs.Platform.{recorded_status}
use Rattle.guppy_closure.specs.declared.clause.Clause.{Clause}
use Rattle.guppy_features.specs.declared.fact.BuildPlatform.{BuildPlatform}
use Rattle.guppy_features.specs.declared.fact.Fact.{Fact}
use Rattle.guppy_features.specs.Facts.{feature, feature_fact, switched_fact}
use Rattle.guppy_features.specs.Dependencies.{DependencyData}
use Rattle.guppy_features.specs.Questions.{Question, is_on, may_ask, counts, use_of}
use Rattle.guppy_features.specs.Adding.{Adds, Where, Behind, OfSome}
use Rattle.guppy_features.specs.Resolved.{is_resolved}
use Rattle.guppy_features.specs.Needs.{Needs, NeedsWhere, feature_there}
use Rattle.guppy_features.specs.Values.{Gives, GivesEither, GivesThrough, GivesUnresolved, GivesWeakly, GivesStrongly}
use Rattle.guppy_features.specs.Follows.{HasValue, feature_count}
use Rattle.guppy_features.specs.Parts.{SwitchesAt}
use Rattle.guppy_features.proofs.Adding.{adds_nothing, adds_same, adds_then, adds_if, adds_if_not, behind_where, behind_either, behind_if}

pub not_off : (b : Bool) → not b ≡ false → IsTrue b
not_off true e = refl
not_off false e = absurd (cc)

same_fact : {X : Type 0} {o : Option X} (x y : X) → o ≡ Some x → o ≡ Some y → x ≡ y
same_fact {X} {o} x y a b = cc

module _ (q : Question) (s : BuildPlatform) (d : DependencyData) where
  -- a dependency that asks for nothing needs nothing
  pub none_asked : is_on q s d.section (recorded_status d.part.build_if) ≡ false → is_on q s d.section (recorded_status d.part.default_features_if) ≡ false
      → length d.part.feature_targets.entries ≡ 0 → (used : Fact) (body : List Fact) (f : Fact) → ¬ NeedsWhere q s d used body f
  none_asked off bare none used body f n = elim n as (λ _. ⊥) [
    | inl i ↦ let e : true ≡ false = sym i.0 ∙ off in absurd cc
    | inr m ↦ elim m as (λ _. ⊥) [
      | inl i ↦ let e : true ≡ false = sym i.0 ∙ bare in absurd cc
      | inr named ↦ let low = named.1.1 in absurd (omega arith)
    ]
  ]

  pub adds_no_needs : ((used : Fact) (body : List Fact) (f : Fact) → ¬ NeedsWhere q s d used body f) → (xs : List (Clause Fact)) → Adds (Needs q s d) xs xs
  adds_no_needs none xs = adds_nothing xs (λ body f n. none n.0 body f n.2)

module _ (q : Question) (s : BuildPlatform) (d : DependencyData) {old new : List (Clause Fact)} where
  pub adds_needs : (used : Fact) → IsTrue (may_ask q d.from d.section) → use_of q s d ≡ Some used → Adds (NeedsWhere q s d used) old new → Adds (Needs q s d) old new
  adds_needs used may is = adds_same (λ body f. (
    λ r. (used, (may, is), r),
    λ n. subst (λ (u : Fact). NeedsWhere q s d u body f) (same_fact n.0 used n.1.1 is) n.2,
  ))

  pub adds_weakly : (name : List ℕ) (first : Option Fact) (used : Fact) → use_of q s d ≡ Some used → Adds (Where first (Some used) (feature_there q s name d)) old new → Adds (Behind first (GivesWeakly q s name d)) old new
  adds_weakly name first used is a = adds_same (λ body f. (
    λ b. (b.0, b.1, (used, is, b.2)),
    λ b. (b.0, b.1, subst (λ (u : Fact). Where None (Some u) (feature_there q s name d) b.0 f) (same_fact b.2.0 used b.2.1 is) b.2.2),
  )) (behind_where first (Some used) (feature_there q s name d) a)

  pub adds_strongly_required : (name : List ℕ) (first : Option Fact) → d.is_optional ≡ false → Adds (Where first None (feature_there q s name d)) old new → Adds (Behind first (GivesStrongly q s name d)) old new
  adds_strongly_required name first required a =
      behind_either first (adds_then (behind_where first None (feature_there q s name d) a) (behind_if first (adds_if_not new (λ optional. let e : true ≡ false = sym optional ∙ required in absurd cc))))

module _ (q : Question) (s : BuildPlatform) (d : DependencyData) {old one two new : List (Clause Fact)} where
  pub adds_strongly_optional : (name : List ℕ) (first : Option Fact) → IsTrue d.is_optional → Adds (Where first None (feature_there q s name d)) old one → Adds (Where first None (use_of q s d)) one two → Adds (Where first None (feature_fact q.graph.packages d.from s d.name)) two new → Adds (Behind first (GivesStrongly q s name d)) old new
  adds_strongly_optional name first optional a b c =
      behind_either first (adds_then (behind_where first None (feature_there q s name d) a) (behind_if first (adds_if optional (behind_either first (adds_then
      (behind_where first None (use_of q s d) b)
      (behind_where first None (feature_fact q.graph.packages d.from s d.name) c))))))

values_same : (q : Question) (p n : ℕ) (r : PackageRecord) (e : String Global × Vec NamedFeatureDep Global) (value : NamedFeatureDep) → slice_get q.graph.packages p ≡ Some r → slice_get r.named_features.entries n ≡ Some e → HasValue q p n value → Contains e.1.items value
values_same q p n r e value record_is entry_is h =
    let records : h.0 ≡ r = same_fact h.0 r h.2 record_is in
    let entry : slice_get r.named_features.entries n ≡ Some h.1 = subst (λ (x : PackageRecord). slice_get x.named_features.entries n ≡ Some h.1) records h.3 in
    let entries : h.1 ≡ e = same_fact h.1 e entry entry_is in
    subst (λ (x : String Global × Vec NamedFeatureDep Global). Contains x.1.items value) entries h.4

module _ (q : Question) (p : ℕ) (s : BuildPlatform) (n : ℕ) {old new : List (Clause Fact)} where
  -- the values of the feature of the place
  pub adds_switches : (r : PackageRecord) (e : String Global × Vec NamedFeatureDep Global) → slice_get q.graph.packages p ≡ Some r → slice_get r.named_features.entries n ≡ Some e → Adds (OfSome e.1.items (λ value. Behind (Some (feature p s n)) (Gives q p s value))) old new → Adds (SwitchesAt q p s n) old new
  adds_switches r e record_is entry_is = adds_same (λ body f. (
    λ o. (o.0, (r, e, record_is, entry_is, o.1), o.2),
    λ w. (w.0, values_same q p n r e w.0 record_is entry_is w.1, w.2),
  ))

pub count_is : (q : Question) (p : ℕ) (r : PackageRecord) → slice_get q.graph.packages p ≡ Some r → feature_count q p ≡ length r.named_features.entries
count_is q p r is = rw is refl

pub both_true : (a b : Bool) → IsTrue a → IsTrue b → IsTrue (a && b)
both_true a b h k = rw (h, k) refl

module _ (q : Question) (s : BuildPlatform) (d : DependencyData) (x name : List ℕ) (weak : Bool) (first : Option Fact) {old new : List (Clause Fact)} where
  pub adds_through : IsTrue (bytes_eq d.name x) → IsTrue (counts q s d) → Adds (Behind first (GivesEither q s name weak d)) old new → Adds (Behind first (GivesThrough q s x name weak d)) old new
  adds_through named counted a = behind_if first (adds_if (named, counted) a)

module _ (q : Question) (p : ℕ) (s : BuildPlatform) (x : List ℕ) (weak : Bool) (first : Option Fact) where
  -- nothing by a weak value, or of an optional dependency that is resolved
  pub adds_resolved : (clauses : List (Clause Fact)) → (not weak && not (is_resolved q.graph p x)) ≡ false → Adds (Behind first (GivesUnresolved q p s x weak)) clauses clauses
  adds_resolved clauses not_so = behind_if first (adds_if_not clauses (λ so. let e : true ≡ false = sym so ∙ not_so in absurd cc))

  pub adds_unresolved : {old new : List (Clause Fact)} → IsTrue (not weak && not (is_resolved q.graph p x)) → Adds (Where first None (switched_fact q.graph.packages p s x)) old new → Adds (Behind first (GivesUnresolved q p s x weak)) old new
  adds_unresolved so a = behind_if first (adds_if so (behind_where first None (switched_fact q.graph.packages p s x) a))
