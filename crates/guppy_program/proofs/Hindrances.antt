-- Links that lead to members that can't be published.
use Rattle.std.proofs.Common.{◌≡◌, ◌∙◌, refl, sym, ap, subst, ℕ, ◌+◌, ◌<◌, Bool, true, false, List, [], ◌∷◌, length, map, take, get_or, All, None, Some}
use Rattle.std.specs.Prelude.{◌↔◌, ◌&&◌, not, Option, IsSome, IsTrue, IsSomeAnd, is_some, slice_get}
use Rattle.std.proofs.lemmas.List.{length-map}
use Rattle.std.proofs.lemmas.List.Elements.{All-more}
use Rattle.std.proofs.lemmas.Option.{slice_get-map, slice_get_read, slice_get-get_or}
use Rattle.std.specs.List.{find}
use Rattle.std.specs.Option.{option_map, option_map_or}
use Rattle.guppy_data.specs.PackagePublish.{Publish, Everywhere, OnlyTo, recorded_publish}
use Rattle.guppy_data.specs.declared.records.LinkRecord.{LinkRecord}
use Rattle.guppy_data.specs.declared.records.PackageRecord.{PackageRecord}
use Rattle.guppy_search.specs.declared.graph_core.link.Link.{Link}
use Rattle.guppy_graph.specs.DevOnly.{is_dev_only}
use Rattle.guppy_graph.specs.Graph.{GraphData}
use Rattle.guppy_graph.specs.Ids.{HasId, DistinctBelow}
use Rattle.guppy_graph.specs.Members.{member_path}
use Rattle.guppy_program.specs.Publish.{is_somewhere, is_held_back, is_hindrance, hindrance_of, IsFree}
use Rattle.guppy_program.proofs.Membership.{same_truth}
use Rattle.guppy_print.proofs.FlaggedPackages.{one_place}

-- what is never published is published nowhere
never_is : (seen : Publish) (never : Bool) → IsTrue never ↔ (seen ≡ OnlyTo []) → never ≡ not (is_somewhere seen)
never_is Everywhere true exact = let no : Everywhere ≡ OnlyTo [] = exact.0 refl in absurd (cc no)
never_is Everywhere false exact = refl
never_is (OnlyTo []) true exact = refl
never_is (OnlyTo []) false exact = exact.1 refl
never_is (OnlyTo (name ∷ names)) true exact = let no : OnlyTo (name ∷ names) ≡ OnlyTo [] = exact.0 refl in absurd (cc no)
never_is (OnlyTo (name ∷ names)) false exact = refl

-- whether the package is a member that can't be published
pub held : (o : Option PackageRecord) (inside never : Bool) (seen : Publish) → IsSomeAnd o (λ r. IsTrue inside ↔ IsSome (member_path r))
    → IsSomeAnd o (λ r. seen ≡ recorded_publish r.publish) → IsTrue never ↔ (seen ≡ OnlyTo []) → IsSomeAnd o (λ r. (inside && never) ≡ is_held_back r)
held None inside never seen member of exact = absurd member
held (Some r) inside never seen member of exact =
    let is_in : inside ≡ is_some (member_path r) = same_truth inside (is_some (member_path r)) member.0 member.1 in
    let is_never : never ≡ not (is_somewhere (recorded_publish r.publish)) = never_is seen never exact ∙ ap (λ p. not (is_somewhere p)) of in
    ap (λ b. b && never) is_in ∙ ap (λ b. is_some (member_path r) && b) is_never

-- a package that is no member isn't one
pub not_held : (o : Option PackageRecord) (inside : Bool) → IsSomeAnd o (λ r. IsTrue inside ↔ IsSome (member_path r)) → inside ≡ false
    → IsSomeAnd o (λ r. inside ≡ is_held_back r)
not_held None inside member isnt = absurd member
not_held (Some r) inside member isnt =
    let is_in : inside ≡ is_some (member_path r) = same_truth inside (is_some (member_path r)) member.0 member.1 in
    isnt ∙ ap (λ b. b && not (is_somewhere (recorded_publish r.publish))) (sym isnt ∙ is_in)

held_at : (o : Option PackageRecord) (held : Bool) → IsSomeAnd o (λ r. held ≡ is_held_back r) → held ≡ option_map_or is_held_back o false
held_at None held is = absurd is
held_at (Some r) held is = is

-- whether the link leads to such a member, and isn't dev-only
pub hindering : (packages : List PackageRecord) (o : Option (Link LinkRecord)) (dev held : Bool) (to : ℕ) → IsSomeAnd o (λ l. dev ≡ is_dev_only l.edge)
    → IsSomeAnd o (λ l. to ≡ l.to) → IsSomeAnd (slice_get packages to) (λ r. held ≡ is_held_back r) → (not dev && held) ≡ option_map_or (is_hindrance packages) o false
hindering packages None dev held to is leads stays = absurd is
hindering packages (Some l) dev held to is leads stays =
    ap (λ b. not b && held) is
    ∙ ap (λ b. not (is_dev_only l.edge) && b) (held_at (slice_get packages to) held stays ∙ ap (λ p. option_map_or is_held_back (slice_get packages p) false) leads)

-- a dev-only link is none
pub not_hindering : (packages : List PackageRecord) (o : Option (Link LinkRecord)) (dev : Bool) → IsSomeAnd o (λ l. dev ≡ is_dev_only l.edge) → dev ≡ true
    → not dev ≡ option_map_or (is_hindrance packages) o false
not_hindering packages None dev is only = absurd is
not_hindering packages (Some l) dev is only =
    ap not only ∙ ap (λ b. not b && option_map_or is_held_back (slice_get packages l.to) false) (sym only ∙ is)

module _ (test : ℕ → Bool) where
  -- the first that passes
  pub found_first : (n : ℕ) (more : List ℕ) → test n ≡ true → find test (n ∷ more) ≡ Some n
  found_first n more passes = rw passes refl

  -- one that doesn't
  pub found_later : (n : ℕ) (more : List ℕ) → test n ≡ false → find test (n ∷ more) ≡ find test more
  found_later n more fails = rw fails refl

module _ (g : GraphData) (distinct : DistinctBelow g.packages (length g.packages)) (id : List ℕ) (position : ℕ) (has : HasId g.packages id position) where
  -- the one package with the ID
  pub free : hindrance_of g position ≡ None → IsFree g id
  free none p has' = ap (hindrance_of g) (one_place g.packages distinct id p position has' has) ∙ none

has_turned : (o : Option PackageRecord) (id : List ℕ) → IsSomeAnd o (λ r. id ≡ r.id) → IsSomeAnd o (λ r. r.id ≡ id)
has_turned None id is = absurd is
has_turned (Some r) id is = sym is

-- the ID of the package to which the link leads
pub leads_to : (packages : List PackageRecord) (o : Option (Link LinkRecord)) (to : ℕ) (id : List ℕ) → IsSomeAnd o (λ l. to ≡ l.to)
    → IsSomeAnd (slice_get packages to) (λ r. id ≡ r.id) → IsSomeAnd o (λ l. HasId packages id l.to)
leads_to packages None to id leads of = absurd leads
leads_to packages (Some l) to id leads of = subst (HasId packages id) leads (has_turned (slice_get packages to) id of)

module _ {X Y : Type 0} (view : X → Y) (items : List X) (i : ℕ) (x : X) (within : i < length items) (is : x ≡ get_or items i x) where
  -- what is viewed of the item at the place
  pub seen_at : slice_get (map view items) i ≡ Some (view x)
  seen_at = slice_get-map view items i ∙ ap (option_map view) (slice_get_read items (length items) i x refl within is)

  -- P holds of what is viewed of the items before it, and of this
  pub one_more : (P : Y → Type 0) → All P (take i (map view items)) → P (view x) → All P (take (i + 1) (map view items))
  one_more P so_far here =
      let inside : i < length (map view items) = subst (λ n. i < n) (sym (length-map items view)) within in
      let at : Some (get_or (map view items) i (view x)) ≡ Some (view x) = sym (slice_get-get_or (map view items) i (view x) inside) ∙ seen_at in
      let same : get_or (map view items) i (view x) ≡ view x = cc in
      All-more P (map view items) i (view x) inside so_far (subst P (sym same) here)
