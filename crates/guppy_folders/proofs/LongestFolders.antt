-- The longest folders that hold some paths, and the paths that count.
use Rattle.std.proofs.Common.{◌≡◌, ◌⊎◌, inl, inr, ⊎_elim, refl, sym, subst, ℕ, List, [], ◌∷◌, ◌++◌, length, map, Contains, None, Some, arith}
use Rattle.std.specs.Prelude.{◌↔◌, ◌≤◌, Option, MatchOption, IsTrue, is_some}
use Rattle.std.specs.declared.vec.Vec.{Vec}
use Rattle.std.specs.declared.alloc.Global.{Global}
use Rattle.std.proofs.lemmas.List.Elements.{Contains-append_cases, Contains-append_left, Contains-append_right, Contains-push, Contains-push_cases}
use Rattle.guppy_data.specs.Path.{Part, components}
use Rattle.guppy_data.specs.Component.{part_shown}
use Rattle.guppy_data.specs.declared.texts.component.Component.{Component}
use Rattle.guppy_folders.specs.Folders.{IsLongest, HoldsNone, HoldsOne}
use Rattle.guppy_folders.specs.Touched.{IsIgnored, OfOne, IsOfWorkspace, IsOfRootsTargets, IsOutside, AreLongest, AreCounted}
use Rattle.guppy_folders.proofs.Elements.{from_one, here_first}
use Rattle.guppy_folders.proofs.Sets.{same_prefix}

-- what was found, or that nothing was, tells whether one holds the path
pub found_one : (folders : List (List Part)) (path : List Part) (found : Option (Vec Component Global)) → MatchOption found (HoldsNone folders path) (λ folder. IsLongest folders path (map part_shown folder.items))
    → IsTrue (is_some found) ↔ HoldsOne folders path
found_one folders path None none = (λ h. absurd (cc), λ (folder, there, inside). absurd (none folder there inside))
found_one folders path (Some folder) longest = (λ h. (map part_shown folder.items, longest.is_one, longest.holds), λ one. refl)

-- a list that is no longer than the empty one
pub no_components : (xs : List Part) → length xs ≤ 0 → xs ≡ []
no_components [] less = refl
no_components (x ∷ xs) less = absurd (omega arith)

module _ (folders : List (List Part)) (path : List ℕ) (folder : List Part) (longest : IsLongest folders (components path) folder) where
  -- where the longest folder is the workspace's own, and the path isn't where its targets are, it is outside
  pub alone_outside : folder ≡ [] → (IsOfRootsTargets path → ⊥) → IsOutside folders path
  alone_outside own others = inr (inr (
    λ other there inside. no_components other (subst (λ (f : List Part). length other ≤ length f) own (longest.longest other there inside)),
    others,
  ))

  -- and else inside
  pub not_outside : (IsOfWorkspace path → ⊥) → ((folder ≡ []) × (IsOfRootsTargets path → ⊥) → ⊥) → IsOutside folders path → ⊥
  not_outside apart own outside = ⊎_elim apart
      (λ more. ⊎_elim (λ none. none folder longest.is_one longest.holds) (λ below. own (below.0 folder longest.is_one longest.holds, below.1)) more) outside

module _ (ignored : List (List ℕ)) (P : List ℕ → Type 0) where
  OfOne-none : OfOne [] ignored P → ⊥
  OfOne-none (path, (k, within, same), counts, h) = absurd (omega arith)

  -- with one more path
  OfOne-push : (paths : List (List ℕ)) (path : List ℕ) → OfOne (paths ++ path ∷ []) ignored P ↔ (OfOne paths ignored P ⊎ ((IsIgnored ignored path → ⊥) × P path))
  OfOne-push paths path = (
    λ (own, there, counts, h). ⊎_elim (λ early. inl (own, early, counts, h)) (λ late. let same = sym (from_one path own late) in inr (subst (λ l. IsIgnored ignored l → ⊥) same counts, subst P same h)) (Contains-append_cases paths (path ∷ []) own there),
    λ either. ⊎_elim (λ (own, there, counts, h). (own, Contains-append_left paths (path ∷ []) own there, counts, h)) (λ now. (path, Contains-append_right paths (path ∷ []) path (here_first path []), now.0, now.1)) either,
  )

module _ (folders : List (List Part)) (ignored : List (List ℕ)) where
  -- no path touches anything
  pub longest_none : AreLongest folders [] ignored []
  longest_none = record {
    inside = λ one. OfOne-none ignored (IsOutside folders) one;
    longest = λ folder. (
      λ there. absurd (omega (arith, there.1)),
      λ one. absurd (OfOne-none ignored (λ path. IsLongest folders (components path) folder) one),
    );
  }

  -- the longest folder that holds a path is one
  one_longest : (path : List Part) (a b : List Part) → IsLongest folders path a → IsLongest folders path b → a ≡ b
  one_longest path a b own other =
      let least = other.longest a own.is_one own.holds in
      let most = own.longest b other.is_one other.holds in
      same_prefix path a b own.holds other.holds (omega arith)

  module _ (paths : List (List ℕ)) (lists : List (List Part)) (are : AreLongest folders paths ignored lists) (path : List ℕ) where
    -- a path to be left out touches nothing
    pub longest_skipped : IsIgnored ignored path → AreLongest folders (paths ++ path ∷ []) ignored lists
    longest_skipped skipped = record {
      inside = λ one. ⊎_elim are.inside (λ late. late.0 skipped) ((OfOne-push ignored (IsOutside folders) paths path).0 one);
      longest = λ folder.
          let more = OfOne-push ignored (λ path. IsLongest folders (components path) folder) paths path in (
            λ there. more.1 (inl ((are.longest folder).0 there)),
            λ one. ⊎_elim (λ early. (are.longest folder).1 early) (λ late. absurd (late.0 skipped)) (more.0 one),
          );
    }

    -- and any other the longest folder that holds it
    pub longest_more : (IsIgnored ignored path → ⊥) → (IsOutside folders path → ⊥) → (own : List Part) → IsLongest folders (components path) own → AreLongest folders (paths ++ path ∷ []) ignored (lists ++ own ∷ [])
    longest_more counts apart own is = record {
      inside = λ one. ⊎_elim are.inside (λ late. apart late.1) ((OfOne-push ignored (IsOutside folders) paths path).0 one);
      longest = λ folder.
          let more = OfOne-push ignored (λ path. IsLongest folders (components path) folder) paths path in (
            λ there. more.1 (⊎_elim (λ early. inl ((are.longest folder).0 early)) (λ same. inr (counts, subst (IsLongest folders (components path)) same is)) (Contains-push_cases lists own folder there)),
            λ one. ⊎_elim (λ early. Contains-append_left lists (own ∷ []) folder ((are.longest folder).1 early))
                (λ late. subst (Contains (lists ++ own ∷ [])) (one_longest (components path) own folder is late.1) (Contains-push lists own)) (more.0 one),
          );
    }

  pub longest_along : (paths : List (List ℕ)) (lists others : List (List Part)) → AreLongest folders paths ignored lists → ((c : List Part) → Contains others c ↔ Contains lists c) → AreLongest folders paths ignored others
  longest_along paths lists others are same = record {
    inside = are.inside;
    longest = λ folder. (λ there. (are.longest folder).0 ((same folder).0 there), λ one. (same folder).1 ((are.longest folder).1 one));
  }

module _ (ignored : List (List ℕ)) where
  module _ (paths : List (List ℕ)) (lists : List (List Part)) (are : AreCounted paths ignored lists) where
    -- a path to be left out doesn't
    pub counted_skipped : (path : List ℕ) → IsIgnored ignored path → AreCounted (paths ++ path ∷ []) ignored lists
    counted_skipped path skipped = λ list.
        let more = OfOne-push ignored (λ path. components path ≡ list) paths path in (
          λ there. more.1 (inl ((are list).0 there)),
          λ one. ⊎_elim (λ early. (are list).1 early) (λ late. absurd (late.0 skipped)) (more.0 one),
        )

    -- any other does
    pub counted_more : (path : List ℕ) → (IsIgnored ignored path → ⊥) → AreCounted (paths ++ path ∷ []) ignored (lists ++ components path ∷ [])
    counted_more path counts = λ list.
        let more = OfOne-push ignored (λ path. components path ≡ list) paths path in (
          λ there. more.1 (⊎_elim (λ early. inl ((are list).0 early)) (λ same. inr (counts, same)) (Contains-push_cases lists (components path) list there)),
          λ one. ⊎_elim (λ early. Contains-append_left lists (components path ∷ []) list ((are list).1 early))
              (λ late. subst (Contains (lists ++ components path ∷ [])) late.1 (Contains-push lists (components path))) (more.0 one),
        )

    pub counted_along : (others : List (List Part)) → ((c : List Part) → Contains others c ↔ Contains lists c) → AreCounted paths ignored others
    counted_along others same = λ list. (λ there. (are list).0 ((same list).0 there), λ one. (same list).1 ((are list).1 one))
