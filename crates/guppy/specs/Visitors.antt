-- Links as a query's visitors are shown them, and what visitors and closures do there.
use Rattle.std.specs.Prelude.{◌≡◌, ℕ, Bool, List}
use Rattle.std.specs.Borrow.{Bor}
use Rattle.guppy_search.specs.Resolve.{LeavesOne}
use Rattle.guppy.specs.declared.link.PackageLink.{PackageLink}
use Rattle.guppy.specs.Views.{LinkData, link_in, link_data}
use Rattle.guppy_graph.specs.Ids.{HasId}
use Rattle.guppy.specs.Query.{QueryData, IncludesId, initials_of}

-- the link of the query's graph with this number
abbrev pub query_link : QueryData → ℕ → LinkData
query_link query n = link_in query.graph n

-- what a visitor of the query may do at its link n
abbrev pub VisitsAt : {V : Type 0} → (V → QueryData → LinkData → Bool → V → Type 0) → QueryData → V
    → ℕ → Bool → V → Type 0
VisitsAt visits query s n answer t = visits s query (query_link query n) answer t

-- the visitor of the query may be shown its link n
abbrev pub MayVisitAt : {V : Type 0} → (V → QueryData → LinkData → Type 0) → QueryData → V → ℕ
    → Type 0
MayVisitAt may_visit query s n = may_visit s query (query_link query n)

module _ {F : Type 0} where
  -- what a call of the closure may do at the query's link n
  abbrev pub CallsAt : (F → Bor QueryData → PackageLink → Bool → F → Type 0) → QueryData → F → ℕ
      → Bool → F → Type 0
  CallsAt step query f n answer g =
      (cx : Bor QueryData) × (link : PackageLink) × step f cx link answer g × (cx.now ≡ query)
      × (link_data link ≡ query_link query n)

  -- the closure may be called at the query's link n
  abbrev pub MayCallAt : (F → Bor QueryData → PackageLink → Type 0) → QueryData → F → ℕ → Type 0
  MayCallAt pre query f n = (cx : Bor QueryData) (link : PackageLink) → cx.now ≡ query
      → link_data link ≡ query_link query n → pre f cx link

-- the end that the link leaves, in the query's direction, has the ID of an initial package
abbrev pub StartsFromInitial : QueryData → LinkData → Type 0
StartsFromInitial query link =
    LeavesOne query.direction link.graph.links
    (λ p. (id : List ℕ) × HasId link.graph.packages id p
    × IncludesId (initials_of query) id) link.number
