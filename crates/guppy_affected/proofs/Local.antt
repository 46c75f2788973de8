-- The packages of this machine, by their folders.
use Rattle.std.proofs.Common.{◌≡◌, ◌∙◌, inl, inr, ⊎_elim, refl, sym, ap, subst, ℕ, zero, suc, ◌<◌, List, [], ◌∷◌, ◌++◌, length, Contains, Bor, arith}
use Rattle.std.specs.Prelude.{◌↔◌, Option, IsSomeAnd, None, Some, slice_get}
use Rattle.std.specs.List.{range_with_len}
use Rattle.std.specs.List.Sorted.{IsPermutation}
use Rattle.std.proofs.lemmas.List.Elements.{Contains-append_left, Contains-push, Contains-push_cases}
use Rattle.std.proofs.lemmas.List.FromFn.{length-range_with_len, get_or-range_with_len}
use Rattle.std.proofs.lemmas.List.Sorted.{Contains-permutation, IsPermutation-sym}
use Rattle.guppy_data.specs.Path.{Part, components}
use Rattle.guppy_data.specs.declared.records.PackageRecord.{PackageRecord}
use Rattle.guppy_graph.specs.Graph.{GraphData}
use Rattle.guppy_graph.specs.Ids.{HasId}
use Rattle.guppy.specs.Iterators.{packages_of}
use Rattle.guppy_affected.specs.Folders.{folder_at}
use Rattle.guppy_affected.specs.Found.{IsFolder}
use Rattle.guppy_data.proofs.Mapped.{Contains-map, from_map}
use Rattle.guppy_folders.proofs.Elements.{One, One-push}

-- the package that is seen is of this machine, with this folder
abbrev pub HasFolder : List Part → Bor GraphData × ℕ → Type 0
HasFolder folder seen = IsSomeAnd (folder_at seen.0.now.packages seen.1) (λ own. components own ≡ folder)

-- what is there, with what holds of it
pub with_own : {X : Type 0} (P : X → Type 0) (o : Option X) → IsSomeAnd o P → (own : X) × (o ≡ Some own) × P own
with_own P None h = absurd h
with_own P (Some own) h = (own, refl, h)

in_range : (n p : ℕ) → p < n → Contains (range_with_len 0 n) p
in_range n p below = (p, rw (length-range_with_len 0 n) below, let at = get_or-range_with_len 0 n p p below in omega arith)

-- a package of this machine is a package
pub with_folder_within : (P : List ℕ → Type 0) (packages : List PackageRecord) (p : ℕ) → IsSomeAnd (folder_at packages p) P → p < length packages
with_folder_within P [] p h = absurd h
with_folder_within P (r ∷ packages) zero h = omega arith
with_folder_within P (r ∷ packages) (suc p) h = let below = with_folder_within P packages p h in omega arith

-- so is one that has an ID
pub with_id_within : (packages : List PackageRecord) (id : List ℕ) (p : ℕ) → HasId packages id p → p < length packages
with_id_within [] id p h = absurd h
with_id_within (r ∷ packages) id zero h = omega arith
with_id_within (r ∷ packages) id (suc p) h = let below = with_id_within packages id p h in omega arith

-- it has the ID that is its record's
pub id_at : (packages : List PackageRecord) (own id : List ℕ) (p : ℕ) → IsSomeAnd (slice_get packages p) (λ r. own ≡ r.id) → HasId packages id p ↔ (own ≡ id)
id_at packages own id p its =
    let one = with_own (λ (r : PackageRecord). own ≡ r.id) (slice_get packages p) its in
    rw one.1 (λ same. one.2 ∙ same, λ same. sym one.2 ∙ same)

module _ (g : Bor GraphData) (seen : List (Bor GraphData × ℕ)) (all : IsPermutation (packages_of g) seen) where
  -- each package was seen, and no package of another graph
  pub was_seen : (p : ℕ) → p < length g.now.packages → Contains seen (g, p)
  was_seen p below = Contains-permutation (packages_of g) seen (g, p) all (Contains-map (λ (p : ℕ). (g, p)) (range_with_len 0 (length g.now.packages)) p (in_range (length g.now.packages) p below))

  pub of_graph : (e : Bor GraphData × ℕ) → Contains seen e → e.0 ≡ g
  of_graph e there =
      let one = from_map (λ (p : ℕ). (g, p)) (range_with_len 0 (length g.now.packages)) e (Contains-permutation seen (packages_of g) e (IsPermutation-sym (packages_of g) seen all) there) in
      sym (ap (λ (e : Bor GraphData × ℕ). e.0) one.2)

  -- the folders of the packages that were seen are those of the packages of this machine
  pub folders_seen : (folder : List Part) → One seen (HasFolder folder) ↔ IsFolder g.now.packages folder
  folders_seen folder = (
    λ (e, there, has). (e.1, subst (λ (b : Bor GraphData). IsSomeAnd (folder_at b.now.packages e.1) (λ own. components own ≡ folder)) (of_graph e there) has),
    λ (p, has). ((g, p), was_seen p (with_folder_within _ g.now.packages p has), has),
  )

-- a list for each package of this machine that was seen
module _ (lists : List (List Part)) (seen : List (Bor GraphData × ℕ)) (so_far : (folder : List Part) → Contains lists folder ↔ One seen (HasFolder folder)) (e : Bor GraphData × ℕ) where
  pub with_more : (own : List ℕ) → Some own ≡ folder_at e.0.now.packages e.1 → (folder : List Part) → Contains (lists ++ components own ∷ []) folder ↔ One (seen ++ e ∷ []) (HasFolder folder)
  with_more own is folder =
      let more = One-push (HasFolder folder) seen e in (
        λ there. more.1 (⊎_elim (λ early. inl ((so_far folder).0 early)) (λ same. inr (rw (← is) same)) (Contains-push_cases lists (components own) folder there)),
        λ one. ⊎_elim (λ early. Contains-append_left lists (components own ∷ []) folder ((so_far folder).1 early))
            (λ has. let own_is : components own ≡ folder = rw (← is) at has in subst (λ c. Contains (lists ++ components own ∷ []) c) own_is (Contains-push lists (components own))) (more.0 one),
      )

  pub with_none : None ≡ folder_at e.0.now.packages e.1 → (folder : List Part) → Contains lists folder ↔ One (seen ++ e ∷ []) (HasFolder folder)
  with_none is folder =
      let more = One-push (HasFolder folder) seen e in (
        λ there. more.1 (inl ((so_far folder).0 there)),
        λ one. ⊎_elim (λ early. (so_far folder).1 early) (λ has. absurd (rw (← is) at has)) (more.0 one),
      )
