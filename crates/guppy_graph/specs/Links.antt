-- The records of links, and the ends that they name.
use Rattle.std.specs.Prelude.{◌≡◌, ℕ, List, length, slice_get, IsSomeAnd, All, map}
use Rattle.guppy_search.specs.declared.graph_core.link.Link.{Link}
use Rattle.guppy_search.specs.Links.{links_between}
use Rattle.guppy_data.specs.declared.records.PackageRecord.{PackageRecord}
use Rattle.guppy_data.specs.declared.records.LinkRecord.{LinkRecord}
use Rattle.guppy_graph.specs.Keys.{DifferBelow, IsFirstRepeat}
use Rattle.guppy_graph.specs.Ids.{HasId, IsKnown}

-- both ends of the record are packages
abbrev pub AreEndsKnown : List PackageRecord → LinkRecord → Type 0
AreEndsKnown packages r = IsKnown packages r.from × IsKnown packages r.to

-- the ends of the link are the positions of the packages that its record names
abbrev pub AreEndsNamed : List PackageRecord → Link LinkRecord → Type 0
AreEndsNamed packages l = HasId packages l.edge.from l.from × HasId packages l.edge.to l.to

-- the links are those of the records, with ends in place of IDs
pub record AreLinksOf (packages : List PackageRecord) (records : List LinkRecord)
    (links : List (Link LinkRecord)) : Type 0 where
  pub records_are : map (λ l. l.edge) links ≡ records
  pub ends : All (AreEndsNamed packages) links

-- the ends are the positions of those that the records name
pub record AreEndsOf (packages : List PackageRecord) (records : List LinkRecord)
    (ends : List (Link (Unit {0}))) : Type 0 where
  pub count : length ends ≡ length records
  pub named : All (AreEndsNamed packages) (links_between ends records)

-- the record of the number has these ends
abbrev pub HasEnds : List LinkRecord → List ℕ × List ℕ → ℕ → Type 0
HasEnds records ends l =
    IsSomeAnd (slice_get records l) (λ r. (r.from ≡ ends.0) × (r.to ≡ ends.1))

-- the links below the number k have different pairs of ends
abbrev pub DistinctPairsBelow : List LinkRecord → ℕ → Type 0
DistinctPairsBelow records = DifferBelow (HasEnds records)

-- the link has the ends of an earlier one, and no link before it has
abbrev pub IsFirstRepeatedLink : List LinkRecord → ℕ → Type 0
IsFirstRepeatedLink records = IsFirstRepeat (HasEnds records)
