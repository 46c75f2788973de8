-- Links that are walked from the set of the roots are walked from the roots.
use Rattle.std.proofs.Common.{◌↔◌, ℕ, Bool, inl, inr, List}
use Rattle.std.specs.Prelude.{Contains}
use Rattle.guppy_search.specs.declared.ix.direction.DependencyDirection.{DependencyDirection}
use Rattle.guppy_search.specs.declared.graph_core.link.Link.{Link}
use Rattle.guppy_search.specs.IxSet.{IsIn}
use Rattle.guppy_search.specs.Walked.{AreWalked}
use Rattle.guppy_core.specs.Roots.{IsRoot, AreRoots}
use Rattle.guppy_core.proofs.Listings.{contains_stands, stands_contains}

-- the same starts walk the same links
walked_alike : {E : Type 0} (d : DependencyDirection) (links : List (Link E)) (set : List Bool) (P Q : ℕ → Type 0) (listed : List ℕ) → ((p : ℕ) → P p ↔ Q p) → AreWalked d links set P listed → AreWalked d links set Q listed
walked_alike d links set P Q listed same are = record {
  once = are.once;
  walked = λ n. (
    λ c.
        let w = (are.walked n).0 c in
        let r = w.reached in
        record { link = w.link; found = w.found; inside = w.inside; reached = (r.0, (same r.0).0 r.1, r.2) },
    λ w.
        let r = w.reached in
        (are.walked n).1 (record { link = w.link; found = w.found; inside = w.inside; reached = (r.0, (same r.0).1 r.1, r.2) }),
  );
  led_to = λ before n after e.
      let l = are.led_to before n after e in
      (l.0, l.1, elim l.2 [ inl s ↦ inl ((same _).0 s) | inr q ↦ inr q ]);
}

-- the roots in place of their set
pub walked_from_roots : {E : Type 0} (d : DependencyDirection) (links : List (Link E)) (set : List Bool) (R Same : ℕ → ℕ → Type 0) (roots : List ℕ) (starts : List Bool) (listed : List ℕ) →
    AreRoots R Same set roots → ((p : ℕ) → IsIn starts p ↔ Contains roots p) → AreWalked d links set (IsIn starts) listed → AreWalked d links set (IsRoot R Same set) listed
walked_from_roots d links set R Same roots starts listed are members =
    walked_alike d links set (IsIn starts) (IsRoot R Same set) listed (λ p. (
      λ h. (are.members p).0 (contains_stands roots p ((members p).0 h)),
      λ r. (members p).1 (stands_contains roots p ((are.members p).1 r)),
    ))
