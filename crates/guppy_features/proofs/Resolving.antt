-- Which optional dependencies are resolved, and which are not though they are switched on.
use Rattle.std.proofs.Common.{◌≡◌, ◌↔◌, ◌∙◌, ℕ, ◌+◌, ◌<◌, Bool, true, false, not, IsTrue, List, Option, Some, None, inl, inr, refl, ap, sym, subst, length, arith}
use Rattle.std.specs.Prelude.{slice_get}
use Rattle.std.specs.List.{list_any}
use Rattle.std.specs.String.{string_bytes}
use Rattle.std.specs.declared.string.String.{String}
use Rattle.std.specs.declared.alloc.Global.{Global}
use Rattle.std.proofs.lemmas.Bool.{cases_lt}
use Rattle.std.proofs.lemmas.Option.{slice_get_within}
use Rattle.guppy_data.specs.declared.records.PackageRecord.{PackageRecord}
use Rattle.guppy_data.proofs.ListedNames.{list_any-map}
use Rattle.guppy_graph.specs.Graph.{GraphData}
use Rattle.guppy_features.specs.declared.dependencies.Dependency.{Dependency}
use Rattle.guppy_features.specs.Dependencies.{AreOf, seen_dependency}
use Rattle.guppy_features.specs.Questions.{Question}
use Rattle.guppy_features.specs.Resolved.{is_optional_called, is_resolved}
use Rattle.guppy_features.specs.Unresolved.{IsSwitchedOn, IsUnresolved}

-- the list of the package's dependencies has one where it is resolved
pub has_resolved : (g : GraphData) (p : ℕ) (list : List Dependency) (x : List ℕ) → AreOf g p list → list_any (λ d. is_optional_called x (seen_dependency d)) list ≡ is_resolved g p x
has_resolved g p list x are = sym (list_any-map (is_optional_called x) seen_dependency list) ∙ ap (list_any (is_optional_called x)) are

one : {X : Type 0} {o : Option X} (x y : X) → o ≡ Some x → o ≡ Some y → x ≡ y
one {X} {o} x y a b = cc

none_at : {X : Type 0} {o : Option X} (x : X) → o ≡ None → o ≡ Some x → ⊥
none_at {X} {o} x a b = absurd (cc (a, b))

not_true : (b : Bool) → IsTrue (not b) → b ≡ false
not_true true h = let e : false ≡ true = h in absurd (cc e)
not_true false h = refl

true_not : (b : Bool) → b ≡ false → IsTrue (not b)
true_not b k = rw k refl

-- what holds of all numbers below one and of that one
pub all_more : (P : ℕ → Type 0) (n : ℕ) → ((m : ℕ) → m < n → P m) → P n → (m : ℕ) → m < n + 1 → P m
all_more P n before here m below = elim (cases_lt m n) as (λ _. P m) [
  | inl less ↦ before m less
  | inr more ↦ (let same : n ≡ m = omega arith in subst P same here)
]

module _ (q : Question) (p n : ℕ) where
  module _ (r : PackageRecord) (found : slice_get q.graph.packages p ≡ Some r) where
    -- there is no such dependency
    pub not_there : slice_get r.optional_deps.keys n ≡ None → ¬ IsUnresolved q p n
    not_there none u =
        let same : u.record_is ≡ r = one u.record_is r u.found found in
        none_at u.name none (subst (λ (x : PackageRecord). slice_get x.optional_deps.keys n ≡ Some u.name) same u.called)

    pub below_count : IsUnresolved q p n → n < length r.optional_deps.keys
    below_count u =
        let same : u.record_is ≡ r = one u.record_is r u.found found in
        slice_get_within r.optional_deps.keys n u.name (subst (λ (x : PackageRecord). slice_get x.optional_deps.keys n ≡ Some u.name) same u.called)

    -- one of this name that is switched on is unresolved exactly where it isn't resolved
    pub unresolved_where : (name : String Global) → slice_get r.optional_deps.keys n ≡ Some name → (has : Bool) → IsSwitchedOn q p n → has ≡ is_resolved q.graph p (string_bytes name) → IsTrue (not has) ↔ IsUnresolved q p n
    unresolved_where name called has switched resolved = (
      λ lacks. record {
        switched_on = switched;
        record_is = r;
        found = found;
        name = name;
        called = called;
        lacks = sym resolved ∙ not_true has lacks;
      },
      λ u. true_not has (
          let same : u.record_is ≡ r = one u.record_is r u.found found in
          let names : u.name ≡ name = one u.name name (subst (λ (x : PackageRecord). slice_get x.optional_deps.keys n ≡ Some u.name) same u.called) called in
          resolved ∙ subst (λ (x : String Global). is_resolved q.graph p (string_bytes x) ≡ false) names u.lacks
          ),
    )

  pub below_packages : IsUnresolved q p n → p < length q.graph.packages
  below_packages u = slice_get_within q.graph.packages p u.record_is u.found
