-- Sets of packages and queries as values.
use Rattle.std.specs.Prelude.{◌≡◌, ◌↔◌, ℕ, Bool, List, length, All}
use Rattle.std.specs.List.{Contains}
use Rattle.guppy_search.specs.declared.ix.direction.DependencyDirection.{DependencyDirection}
use Rattle.guppy_search.specs.IxSet.{IsIn}
use Rattle.guppy_data.specs.declared.records.PackageRecord.{PackageRecord}
use Rattle.guppy_graph.specs.Ids.{HasId}
use Rattle.guppy_graph.specs.Graph.{GraphData}

-- a set of packages of a graph, as the set of their positions
pub record SetData : Type 0 where
  pub graph : GraphData
  pub included : List Bool

-- where a query starts, and the direction in which it follows links
pub record QueryData : Type 0 where
  pub graph : GraphData
  pub initials : List Bool
  pub direction : DependencyDirection

-- each text names a package, and the set has exactly the packages that they name
pub record IsSetOfNamed (Names : List ℕ → ℕ → Type 0) (packages : List PackageRecord)
    (texts : List (List ℕ)) (set : List Bool) : Type 0 where
  pub count_is : length set ≡ length packages
  pub known : All (λ text. (p : ℕ) × Names text p) texts
  pub members : (p : ℕ) → IsIn set p ↔ ((text : List ℕ) × Contains texts text × Names text p)

-- each ID is a package's, and the set has exactly these packages
abbrev pub IsSetOfIds : List PackageRecord → List (List ℕ) → List Bool → Type 0
IsSetOfIds packages = IsSetOfNamed (HasId packages) packages

-- the package with the ID is in the set
abbrev pub IncludesId : SetData → List ℕ → Type 0
IncludesId s id = (p : ℕ) × HasId s.graph.packages id p × IsIn s.included p

-- the set has exactly the positions of packages at which P holds
pub record IsSetWhere (packages : List PackageRecord) (P : ℕ → Type 0)
    (set : List Bool) : Type 0 where
  pub count_is : length set ≡ length packages
  pub members : (p : ℕ) → IsIn set p ↔ P p

-- the set that the query starts at
abbrev pub initials_of : QueryData → SetData
initials_of q = record { graph = q.graph; included = q.initials }
