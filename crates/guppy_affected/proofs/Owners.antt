-- Which packages the paths touch, by the folders that hold them.
use Rattle.std.proofs.Common.{◌≡◌, ◌∙◌, ◌⊎◌, inl, inr, ⊎_elim, refl, sym, ap, subst, ℕ, zero, suc, ◌<◌, Bool, false, List, [], ◌∷◌, length, replicate, Contains, Bor, Some, arith}
use Rattle.std.specs.Prelude.{◌↔◌, IsSomeAnd}
use Rattle.std.specs.List.Sorted.{IsPermutation}
use Rattle.std.proofs.lemmas.List.{length-replicate}
use Rattle.std.proofs.lemmas.List.Elements.{Contains-append_right}
use Rattle.guppy_search.specs.IxSet.{IsIn, IsUnion}
use Rattle.guppy_data.specs.Path.{Part, components}
use Rattle.guppy_data.specs.declared.records.PackageRecord.{PackageRecord}
use Rattle.guppy_graph.specs.Graph.{GraphData}
use Rattle.guppy_graph.specs.Members.{IsMember}
use Rattle.guppy.specs.Iterators.{packages_of}
use Rattle.guppy.specs.Query.{IsSetWhere, SetData}
use Rattle.guppy_folders.specs.Folders.{IsInside, LiesIn, IsLongest, HoldsNone, HoldsNoneBelow, HoldsOne}
use Rattle.guppy_folders.specs.Touched.{IsIgnored, IsOneOutside, AreLongest, AreCounted}
use Rattle.guppy_folders.proofs.LongestFolders.{no_components}
use Rattle.guppy_affected.specs.Folders.{Given, folder_at, Holds, Belongs, IsBelow, IsHeldByRoot, depth}
use Rattle.guppy_affected.specs.Found.{AreFolders}
use Rattle.guppy_affected.specs.Changed.{IsForAll, IsTouched, AreChanged, HasFolderIn, IsChangedBy, IsAdded, ArePlaces}
use Rattle.guppy_affected.proofs.Iterators.{where_along}
use Rattle.guppy_affected.proofs.Targets.{elsewhere_touched, given_touched}
use Rattle.guppy_affected.proofs.Local.{was_seen, of_graph, with_folder_within, with_id_within, with_own}
use Rattle.guppy_affected.proofs.Tests.{none_in}

-- of the packages with P, those that were seen are in the set, and the others are still to come
pub record ArePicked (graph : GraphData) (P : ℕ → Type 0) (left : List (Bor GraphData × ℕ)) (set : List Bool) : Type 0 where
  pub of_graph : (e : Bor GraphData × ℕ) → Contains left e → e.0.now ≡ graph
  pub inside : (p : ℕ) → IsIn set p → P p
  pub rest : (p : ℕ) → P p → IsIn set p ⊎ ((b : Bor GraphData) × Contains left (b, p))

picked_none : (g : Bor GraphData) (P : ℕ → Type 0) → ((p : ℕ) → P p → p < length g.now.packages) → (left : List (Bor GraphData × ℕ)) → IsPermutation (packages_of g) left → (n : ℕ) → ArePicked g.now P left (replicate n false)
picked_none g P within left all n = record {
  of_graph = λ e there. ap (λ (b : Bor GraphData). b.now) (of_graph g left all e there);
  inside = λ p h. absurd (none_in n p h);
  rest = λ p h. inr (g, was_seen g left all p (within p h));
}

module _ (graph : GraphData) (P : ℕ → Type 0) (set : List Bool) where
  picked_all : ArePicked graph P [] set → (p : ℕ) → IsIn set p ↔ P p
  picked_all are p = (are.inside p, λ h. ⊎_elim (λ k. k) (λ later. absurd (omega (arith, later.1.1))) (are.rest p h))

  module _ (e : Bor GraphData × ℕ) (left : List (Bor GraphData × ℕ)) (are : ArePicked graph P (e ∷ left) set) where
    picked_graph : e.0.now ≡ graph
    picked_graph = are.of_graph e (zero, omega arith, refl)

    later_of : (d : Bor GraphData × ℕ) → Contains left d → d.0.now ≡ graph
    later_of d there = are.of_graph d (Contains-append_right (e ∷ []) left d there)

    first_or_later : (b : Bor GraphData) (p : ℕ) → Contains (e ∷ left) (b, p) → (e.1 ≡ p) ⊎ Contains left (b, p)
    first_or_later b p (zero, within, same) = inl (ap (λ (d : Bor GraphData × ℕ). d.1) same)
    first_or_later b p (suc k, within, same) = inr (k, omega arith, same)

    picked_more : P e.1 → (more : List Bool) → ((q : ℕ) → IsIn more q ↔ (IsIn set q ⊎ (q ≡ e.1))) → ArePicked graph P left more
    picked_more has more both = record {
      of_graph = later_of;
      inside = λ p h. ⊎_elim (are.inside p) (λ same. subst P (sym same) has) ((both p).0 h);
      rest = λ p h. ⊎_elim (λ k. inl ((both p).1 (inl k)))
          (λ (b, there). ⊎_elim (λ same. inl ((both p).1 (inr (sym same)))) (λ later. inr (b, later)) (first_or_later b p there)) (are.rest p h);
    }

    picked_not : (P e.1 → ⊥) → ArePicked graph P left set
    picked_not has_not = record {
      of_graph = later_of;
      inside = are.inside;
      rest = λ p h. ⊎_elim (λ k. inl k) (λ (b, there). ⊎_elim (λ same. absurd (has_not (subst P (sym same) h))) (λ later. inr (b, later)) (first_or_later b p there)) (are.rest p h);
    }

-- a package that changed is one
pub changed_within : (g : GraphData) (also : List Given) (folders paths places : List (List Part)) (p : ℕ) → IsChangedBy g also folders paths places p → p < length g.packages
changed_within g also folders paths places p = ⊎_elim (with_folder_within _ g.packages p)
    (⊎_elim (with_folder_within _ g.packages p) (λ (given, is, (its, meets)). with_id_within g.packages given.1 p its))

-- with one more package, where P holds of it
module _ (g : GraphData) (P : ℕ → Type 0) (e : Bor GraphData × ℕ) (left : List (Bor GraphData × ℕ)) (set more : List Bool)
    (picked : ArePicked g P (e ∷ left) set) (added : IsAdded g P e.1 set more) where
  picked_added : ArePicked g P left more
  picked_added = ⊎_elim (λ (has, count, both). picked_more g P set e left picked has more both)
      (λ (has_not, same). subst (ArePicked g P left) (sym same) (picked_not g P set e left picked has_not)) added

  count_added : length set ≡ length g.packages → length more ≡ length g.packages
  count_added count_is = ⊎_elim (λ (has, count, both). count) (λ (has_not, same). ap length same ∙ count_is) added

-- of the packages of the graph with P, the set has those that were seen, and the others are still to come
pub record IsPicking (g : GraphData) (P : GraphData → ℕ → Type 0) (left : List (Bor GraphData × ℕ)) (set : SetData) : Type 0 where
  pub same : set.graph ≡ g
  pub count : length set.included ≡ length g.packages
  pub picked : ArePicked g (P g) left set.included

pub picking_none : (g : Bor GraphData) (P : GraphData → ℕ → Type 0) → ((p : ℕ) → P g.now p → p < length g.now.packages) → (left : List (Bor GraphData × ℕ)) → IsPermutation (packages_of g) left → (set : SetData) → set.graph ≡ g.now → set.included ≡ replicate (length g.now.packages) false → IsPicking g.now P left set
picking_none g P within left all set same none = record {
  same = same;
  count = ap length none ∙ length-replicate _ false;
  picked = rw none (picked_none g (P g.now) within left all (length g.now.packages));
}

module _ {g : GraphData} {P : GraphData → ℕ → Type 0} {before : List (Bor GraphData × ℕ)} {set : SetData} (are : IsPicking g P before set) where
  pub picking_all : before ≡ [] → IsSetWhere g.packages (P g) set.included
  picking_all ends = record {
    count_is = are.count;
    members = picked_all g (P g) set.included (subst (λ (left : List (Bor GraphData × ℕ)). ArePicked g (P g) left set.included) ends are.picked);
  }

  -- with the next package
  module _ (e : Bor GraphData × ℕ) (left : List (Bor GraphData × ℕ)) (next : before ≡ e ∷ left) where
    up_to : ArePicked g (P g) (e ∷ left) set.included
    up_to = subst (λ (left : List (Bor GraphData × ℕ)). ArePicked g (P g) left set.included) next are.picked

    own_graph : e.0.now ≡ g
    own_graph = picked_graph g (P g) set.included e left up_to

    pub picking_graph : set.graph ≡ e.0.now
    picking_graph = are.same ∙ sym own_graph

    pub picking_more : (more : SetData) → more.graph ≡ set.graph → IsAdded e.0.now (P e.0.now) e.1 set.included more.included → IsPicking g P left more
    picking_more more same there =
        let added = subst (λ (h : GraphData). IsAdded h (P h) e.1 set.included more.included) own_graph there in
        record {
          same = same ∙ are.same;
          count = count_added g (P g) e left set.included more.included up_to added are.count;
          picked = picked_added g (P g) e left set.included more.included up_to added;
        }

pub union_with_one : (set one more : List Bool) (n : ℕ) → ((p : ℕ) → IsIn one p ↔ (p ≡ n)) → IsUnion set one more → (p : ℕ) → IsIn more p ↔ (IsIn set p ⊎ (p ≡ n))
union_with_one set one more n only both p = (
  λ h. ⊎_elim (λ k. inl k) (λ k. inr ((only p).0 k)) ((both p).0 h),
  λ either. (both p).1 (⊎_elim (λ k. inl k) (λ same. inr ((only p).1 same)) either),
)

module _ (packages : List PackageRecord) (folders : List (List Part)) (are : AreFolders packages folders) where
  -- a package's own folder is one of them
  own_is_one : (p : ℕ) (own : List ℕ) → folder_at packages p ≡ Some own → Contains folders (components own)
  own_is_one p own is = (are (components own)).1 (p, rw is refl)

  depth_of : (p : ℕ) (own : List ℕ) → folder_at packages p ≡ Some own → depth packages p ≡ length (components own)
  depth_of p own is = rw is refl

  holding : (path : List ℕ) (folder : List Part) → Contains folders folder → IsInside folder (components path) → (p : ℕ) × Holds packages path p × (depth packages p ≡ length folder)
  holding path folder there begins =
      let of = (are folder).0 there in
      let own = with_own (λ own. components own ≡ folder) (folder_at packages of.0) of.1 in
      (of.0, rw own.1 (subst (λ c. IsInside c (components path)) (sym own.2) begins), rw own.1 (ap length own.2))

  -- none of the folders holds the path exactly where that of no package of this machine does
  none_holds : (path : List ℕ) → HoldsNone folders (components path) → (p : ℕ) → Holds packages path p → ⊥
  none_holds path none p holds =
      let own = with_own (λ own. IsInside (components own) (components path)) (folder_at packages p) holds in
      none (components own.0) (own_is_one p own.0 own.1) own.2

  -- only the workspace's own folder holds it exactly where only that of a package there does
  root_holds : (path : List ℕ) → HoldsNoneBelow folders (components path) → IsHeldByRoot packages path
  root_holds path none p holds =
      let own = with_own (λ own. IsInside (components own) (components path)) (folder_at packages p) holds in
      depth_of p own.0 own.1 ∙ ap length (none (components own.0) (own_is_one p own.0 own.1) own.2)

  held_by_root : (path : List ℕ) → IsHeldByRoot packages path → HoldsNoneBelow folders (components path)
  held_by_root path held folder there inside = let q = holding path folder there inside in no_components folder (let none = held q.0 q.1 in omega arith)

  -- the path belongs to the packages whose folder is the longest that holds it
  longest_belongs : (path : List ℕ) (p : ℕ) (own : List ℕ) → folder_at packages p ≡ Some own → IsLongest folders (components path) (components own) → Belongs packages path p
  longest_belongs path p own is longest = record {
    holds = rw is longest.holds;
    longest = λ q holds.
        let other = with_own (λ own. IsInside (components own) (components path)) (folder_at packages q) holds in
        let less = longest.longest (components other.0) (own_is_one q other.0 other.1) other.2 in
        rw (is, other.1) less;
  }

  belongs_longest : (path : List ℕ) (p : ℕ) → Belongs packages path p → IsSomeAnd (folder_at packages p) (λ own. IsLongest folders (components path) (components own))
  belongs_longest path p belongs =
      let own = with_own (λ own. IsInside (components own) (components path)) (folder_at packages p) belongs.holds in
      subst (λ o. IsSomeAnd o (λ own. IsLongest folders (components path) (components own))) (sym own.1) (record {
        is_one = own_is_one p own.0 own.1;
        holds = own.2;
        longest = λ other there begins.
            let q = holding path other there begins in
            let less = belongs.longest q.0 q.1 in
            let deep = depth_of p own.0 own.1 in
            let deep_other : depth packages q.0 ≡ length other = q.2 in
            omega arith;
      })

  module _ (paths ignored : List (List ℕ)) where
    outside_all : IsOneOutside folders paths ignored → IsForAll packages paths ignored
    outside_all (path, there, counts, outside) = (
      path,
      there,
      counts,
      ⊎_elim (λ of. inl of)
          (λ apart. inr (⊎_elim (λ none. inl (none_holds path none)) (λ alone. inr (root_holds path alone.0, alone.1)) apart)) outside,
    )

    all_outside : IsForAll packages paths ignored → IsOneOutside folders paths ignored
    all_outside (path, there, counts, everyones) = (
      path,
      there,
      counts,
      ⊎_elim (λ of. inl of)
          (λ apart. inr (⊎_elim (λ none. inl (λ folder is inside. let q = holding path folder is inside in none q.0 q.1)) (λ alone. inr (held_by_root path alone.0, alone.1)) apart)) everyones,
    )

module _ (g : GraphData) (folders : List (List Part)) (are : AreFolders g.packages folders) (paths ignored : List (List ℕ)) (also : List Given) where
  -- where one of the paths is everyone's, the members changed
  pub changed_all : (set : List Bool) → IsOneOutside folders paths ignored → IsSetWhere g.packages (IsMember g.packages) set → AreChanged g paths ignored also set
  changed_all set outside where_members = inl (outside_all g.packages folders are paths ignored outside, where_members)

  module _ (touched counted places : List (List Part)) (longest : AreLongest folders paths ignored touched) (those : AreCounted paths ignored counted) (lead : ArePlaces g.workspace.root paths ignored places) (p : ℕ) where
    -- a package changed where its folder is one of the longest or lies in one of the paths
    folder_touched : HasFolderIn g.packages touched counted p → IsTouched g paths ignored also p
    folder_touched has =
        let own = with_own (λ own. Contains touched (components own) ⊎ HoldsOne counted (components own)) (folder_at g.packages p) has in
        ⊎_elim (λ there. let one = (longest.longest (components own.0)).0 there in (one.0, one.1, one.2, inl (longest_belongs g.packages folders are one.0 p own.0 own.1 one.3)))
        (λ (list, there, inside). let one = (those list).0 there in
        (one.0, one.1, one.2, inr (inl (rw own.1 (subst (λ (l : List Part). IsInside l (components own.0)) (sym one.3) inside))))) own.2

    touched_folder : (path : List ℕ) → Contains paths path → (IsIgnored ignored path → ⊥) → Belongs g.packages path p ⊎ IsBelow g.packages path p → HasFolderIn g.packages touched counted p
    touched_folder path there counts changes = ⊎_elim
        (λ belongs.
        let own = with_own (λ own. IsLongest folders (components path) (components own)) (folder_at g.packages p) (belongs_longest g.packages folders are path p belongs) in
        rw own.1 (inl ((longest.longest (components own.0)).1 (path, there, counts, own.2))))
        (λ below.
        let own = with_own (λ own. LiesIn path own) (folder_at g.packages p) below in
        rw own.1 (inr (components path, (those (components path)).1 (path, there, counts, refl), own.2)))
        changes

    -- or where a target of it lies elsewhere, or a folder is given to it, which meets one of the places
    changed_touched : IsChangedBy g also touched counted places p ↔ IsTouched g paths ignored also p
    changed_touched =
        let far = elsewhere_touched g paths ignored places lead p in
        let near = given_touched g paths ignored places lead p also in (
          λ changed. ⊎_elim folder_touched
              (λ other. ⊎_elim (λ elsewhere. let one = far.0 elsewhere in (one.0, one.1, one.2, inr (inr (inl one.3))))
              (λ given. let one = near.0 given in (one.0, one.1, one.2, inr (inr (inr one.3)))) other) changed,
          λ (path, there, counts, changes). ⊎_elim (λ belongs. inl (touched_folder path there counts (inl belongs)))
              (λ more. ⊎_elim (λ below. inl (touched_folder path there counts (inr below)))
              (λ other. inr (⊎_elim (λ elsewhere. inl (far.1 (path, there, counts, elsewhere))) (λ given. inr (near.1 (path, there, counts, given))) other)) more) changes,
        )

  -- and else the packages that are changed by one of them
  pub changed_some : (set : List Bool) (touched counted places : List (List Part)) → AreLongest folders paths ignored touched → AreCounted paths ignored counted → ArePlaces g.workspace.root paths ignored places
      → IsSetWhere g.packages (IsChangedBy g also touched counted places) set → AreChanged g paths ignored also set
  changed_some set touched counted places longest those lead where_changed = inr (
    λ all. longest.inside (all_outside g.packages folders are paths ignored all),
    where_along g.packages set (λ p. changed_touched touched counted places longest those lead p) where_changed,
  )
