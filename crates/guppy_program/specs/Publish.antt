-- The members that can be published, and those that hinder others.
use Rattle.std.specs.Prelude.{◌≡◌, ℕ, Bool, true, false, not, ◌&&◌, List, [], Option, Some, None, is_some, slice_get, take, All, IsSomeAnd}
use Rattle.std.specs.List.{find, list_any}
use Rattle.std.specs.Option.{option_map_or}
use Rattle.std.specs.Str.{bytes_eq}
use Rattle.guppy_data.specs.PackagePublish.{Publish, Everywhere, OnlyTo, recorded_publish}
use Rattle.guppy_data.specs.declared.records.LinkRecord.{LinkRecord}
use Rattle.guppy_data.specs.declared.records.PackageRecord.{PackageRecord}
use Rattle.guppy_data.specs.declared.texts.error.Error.TheVariants.{OutOfMemory}
use Rattle.guppy_search.specs.declared.graph_core.link.Link.{Link}
use Rattle.guppy_search.specs.declared.ix.direction.DependencyDirection.TheVariants.{Forward}
use Rattle.guppy_search.specs.Links.{links_at}
use Rattle.guppy_graph.specs.DevOnly.{is_dev_only}
use Rattle.guppy_graph.specs.Graph.{GraphData}
use Rattle.guppy_graph.specs.Ids.{HasId}
use Rattle.guppy_graph.specs.Members.{member_path}
use Rattle.guppy_process.specs.Cause.{Cause, library, unpublishable}

-- to some registry
abbrev pub is_somewhere : Publish → Bool
is_somewhere Everywhere = true
is_somewhere (OnlyTo []) = false
is_somewhere (OnlyTo _) = true

-- a package with the ID can be published somewhere
abbrev pub is_publishable : List PackageRecord → List ℕ → Bool
is_publishable packages id =
    list_any (λ r. bytes_eq id r.id && is_somewhere (recorded_publish r.publish)) packages

-- a member that can't be published
abbrev pub is_held_back : PackageRecord → Bool
is_held_back r = is_some (member_path r) && not (is_somewhere (recorded_publish r.publish))

-- the link isn't dev-only, and leads to a member that can't be published
abbrev pub is_hindrance : List PackageRecord → Link LinkRecord → Bool
is_hindrance packages l = not (is_dev_only l.edge) && option_map_or is_held_back (slice_get packages l.to) false

module _ (g : GraphData) where
  -- so does the link with the number
  abbrev pub is_hindrance_at : ℕ → Bool
  is_hindrance_at n = option_map_or (is_hindrance g.packages) (slice_get g.links n) false

  -- the first such link that leaves the package at the position, by number, if there is one
  abbrev pub hindrance_of : ℕ → Option ℕ
  hindrance_of p = find is_hindrance_at (links_at Forward g.links p)

  -- no such link leaves the package with the ID
  abbrev pub IsFree : List ℕ → Type 0
  IsFree id = (p : ℕ) → HasId g.packages id p → hindrance_of p ≡ None

  -- the first such link that leaves the package with the one ID leads to the one with the other
  pub record IsHindered (from to : List ℕ) : Type 0 where
    pub position : ℕ
    pub from_is : HasId g.packages from position
    pub number : ℕ
    pub first : hindrance_of position ≡ Some number
    pub to_is : IsSomeAnd (slice_get g.links number) (λ l. HasId g.packages to l.to)

  -- the first of these packages that such a link leaves has the one ID, and this leads to the one with the other
  pub record IsFirstHindered (ids : List (List ℕ)) (from to : List ℕ) : Type 0 where
    pub place : ℕ
    pub at : slice_get ids place ≡ Some from
    pub before : All IsFree (take place ids)
    pub hindered : IsHindered from to

  -- what these two are called is told
  pub record IsHindranceTold (call : List ℕ → List ℕ) (ids : List (List ℕ)) (member needed : List ℕ) : Type 0 where
    pub from : List ℕ
    pub to : List ℕ
    pub first : IsFirstHindered ids from to
    pub member_is : member ≡ call from
    pub needed_is : needed ≡ call to

  -- the cause tells these two, or memory ran out
  abbrev pub IsHindranceCause : (List ℕ → List ℕ) → List (List ℕ) → Cause → Type 0
  IsHindranceCause call ids (unpublishable member needed) = IsHindranceTold call ids member needed
  IsHindranceCause call ids (library OutOfMemory) = Unit {0}
  IsHindranceCause call ids _ = ⊥
