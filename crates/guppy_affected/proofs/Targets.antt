-- Packages with targets elsewhere, and where paths lead.
use Rattle.std.proofs.Common.{◌≡◌, ◌⊎◌, inl, inr, ⊎_elim, refl, sym, subst, ℕ, Bool, List, [], ◌++◌, map, Contains, None, Some, arith}
use Rattle.std.specs.Prelude.{◌↔◌, IsTrue, Option, IsSomeAnd, slice_get}
use Rattle.std.proofs.lemmas.List.Sorted.{Contains-permutation, IsPermutation-sym}
use Rattle.guppy_data.specs.Path.{Part, components}
use Rattle.guppy_data.specs.declared.records.BuildTargetRecord.{BuildTargetRecord}
use Rattle.guppy_data.specs.declared.records.PackageRecord.{PackageRecord}
use Rattle.guppy_graph.specs.Graph.{GraphData}
use Rattle.guppy_graph.specs.Targets.{AreTargetsById}
use Rattle.guppy_data.proofs.Mapped.{Contains-map, from_map}
use Rattle.guppy_folders.specs.Places.{resolved, MeetsOne, place, place_above, Meets}
use Rattle.guppy_folders.specs.Touched.{IsIgnored, OfOne, AreCounted}
use Rattle.guppy_affected.specs.Affected.{IsAffected}
use Rattle.guppy_affected.specs.Folders.{folder_at, Belongs, IsBelow, OneElsewhere, HasTargetElsewhere, IsElsewhere, Given, HasFolderGiven, IsAlso, Changes}
use Rattle.guppy_affected.specs.Changed.{ArePlaces}
use Rattle.guppy_affected.proofs.Local.{with_own}

-- among the targets in any order
pub elsewhere_found : (g : GraphData) (p : ℕ) (P : List Part → Type 0) (own : List ℕ) (targets : List BuildTargetRecord) (has : Bool)
    → Some own ≡ folder_at g.packages p → IsSomeAnd (slice_get g.packages p) (λ r. AreTargetsById r.build_targets.items targets)
    → IsTrue has ↔ OneElsewhere g.workspace.root (place g.workspace.root own) P targets → IsTrue has ↔ HasTargetElsewhere g P p
elsewhere_found g p P own targets has is of found =
    let one = with_own (λ (r : PackageRecord). AreTargetsById r.build_targets.items targets) (slice_get g.packages p) of in
    let all = one.2.permutation in
    rw (← is, one.1) (
      λ h. let lies = found.0 h in (lies.0, Contains-permutation targets one.0.build_targets.items lies.0 (IsPermutation-sym one.0.build_targets.items targets all) lies.1, lies.2),
      λ lies. found.1 (lies.0, Contains-permutation one.0.build_targets.items targets lies.0 all lies.1, lies.2),
    )

-- the places that paths lead to, of their lists of components
pub lists_lead : (root : List ℕ) (paths ignored : List (List ℕ)) (lists places : List (List Part)) → AreCounted paths ignored lists
    → places ≡ map (λ path. resolved (components root ++ path)) lists → ArePlaces root paths ignored places
lists_lead root paths ignored lists places those are found = (
  λ there.
      let one = from_map (λ (path : List Part). resolved (components root ++ path)) lists found (subst (λ (l : List (List Part)). Contains l found) are there) in
      let path = (those one.0).0 one.1 in
      (path.0, path.1, path.2, rw path.3 one.2),
  λ (path, there, counts, same).
      subst (λ (l : List (List Part)). Contains l found) (sym are)
      (subst (λ (c : List Part). Contains (map (λ path. resolved (components root ++ path)) lists) c) same
      (Contains-map (λ (path : List Part). resolved (components root ++ path)) lists (components path) ((those (components path)).1 (path, there, counts, refl)))),
)

-- what holds of both, with a path for it
one_out : (own : Option (List ℕ)) (record_of : Option PackageRecord) (P : List ℕ → PackageRecord → Type 0) (C : List ℕ → Type 0) (Q : List ℕ → List ℕ → PackageRecord → Type 0)
    → ((o : List ℕ) (r : PackageRecord) → P o r → (path : List ℕ) × C path × Q path o r)
    → IsSomeAnd own (λ o. IsSomeAnd record_of (P o)) → (path : List ℕ) × C path × IsSomeAnd own (λ o. IsSomeAnd record_of (Q path o))
one_out None record_of P C Q give both = absurd both
one_out (Some o) None P C Q give both = absurd both
one_out (Some o) (Some r) P C Q give both = give o r both

-- and what follows from it
both_along : (own : Option (List ℕ)) (record_of : Option PackageRecord) (P Q : List ℕ → PackageRecord → Type 0) → ((o : List ℕ) (r : PackageRecord) → P o r → Q o r)
    → IsSomeAnd own (λ o. IsSomeAnd record_of (P o)) → IsSomeAnd own (λ o. IsSomeAnd record_of (Q o))
both_along None record_of P Q along both = absurd both
both_along (Some o) None P Q along both = absurd both
both_along (Some o) (Some r) P Q along both = along o r both

-- a folder meets one of the places where it meets that of one of the paths
module _ (g : GraphData) (paths ignored : List (List ℕ)) (places : List (List Part)) (lead : ArePlaces g.workspace.root paths ignored places) (p : ℕ) where
  abbrev Found : (List Part → Type 0) → List ℕ → PackageRecord → Type 0
  Found P own r = OneElsewhere g.workspace.root (place g.workspace.root own) P r.build_targets.items

  pub elsewhere_touched : HasTargetElsewhere g (λ folder. MeetsOne folder places) p ↔ OfOne paths ignored (λ path. IsElsewhere g path p)
  elsewhere_touched =
      let root = g.workspace.root in
      let counts = λ (path : List ℕ). Contains paths path × (IsIgnored ignored path → ⊥) in
      let at = λ (path : List ℕ) (folder : List Part). Meets folder (place root path) in (
        λ far.
            let one = one_out (folder_at g.packages p) (slice_get g.packages p) (Found (λ folder. MeetsOne folder places)) counts (λ path. Found (at path)) (λ own r found.
            let lies = found.2 in
            let path = (lead lies.1.0).0 lies.1.1 in
            (path.0, (path.1, path.2), (found.0, found.1, (lies.0, subst (Meets (place_above root found.0.path)) (sym path.3) lies.1.2)))) far in
            (one.0, one.1.0, one.1.1, one.2),
        λ (path, there, counts, far). both_along (folder_at g.packages p) (slice_get g.packages p) (Found (at path)) (Found (λ folder. MeetsOne folder places))
            (λ own r found. (found.0, found.1, (found.2.0, (place root path, (lead (place root path)).1 (path, there, counts, refl), found.2.1)))) far,
      )

  -- so does one that is given to a package
  pub given_touched : (also : List Given) → HasFolderGiven g also (λ folder. MeetsOne folder places) p ↔ OfOne paths ignored (λ path. IsAlso g also path p)
  given_touched also =
      let root = g.workspace.root in (
        λ (given, is, (its, (there, lies, meets))).
            let path = (lead there).0 lies in
            (path.0, path.1, path.2, (given, is, (its, subst (Meets (place root given.0)) (sym path.3) meets))),
        λ (path, there, counts, (given, is, (its, meets))). (given, is, (its, (place root path, (lead (place root path)).1 (path, there, counts, refl), meets))),
      )

-- where no folder is given, a package that changed did for another reason
pub changed_otherwise : (g : GraphData) (path : List ℕ) (p : ℕ) → Changes g [] path p → Belongs g.packages path p ⊎ (IsBelow g.packages path p ⊎ IsElsewhere g path p)
changed_otherwise g path p = ⊎_elim (λ belongs. inl belongs)
    (⊎_elim (λ below. inr (inl below)) (⊎_elim (λ elsewhere. inr (inr elsewhere)) (λ (given, (k, within, same), its). absurd (omega arith))))

-- and is one where folders are given
changed_anyway : (g : GraphData) (also : List Given) (path : List ℕ) (p : ℕ) → Changes g [] path p → Changes g also path p
changed_anyway g also path p changes = ⊎_elim (λ belongs. inl belongs)
    (⊎_elim (λ below. inr (inl below)) (λ elsewhere. inr (inr (inl elsewhere)))) (changed_otherwise g path p changes)

-- so is a member that is affected
pub affected_anyway : (g : GraphData) (paths ignored : List (List ℕ)) (also : List Given) (p : ℕ) → IsAffected g paths ignored [] p → IsAffected g paths ignored also p
affected_anyway g paths ignored also p (member, (path, there, counts, affects)) = (
  member,
  (path, there, counts, ⊎_elim (λ everyones. inl everyones) (λ (q, changes, tested). inr (q, changed_anyway g also path q changes, tested)) affects),
)
