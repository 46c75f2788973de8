-- The links by which packages need each other to be published.
use Rattle.std.specs.Prelude.{◌≡◌, ◌≢◌, ◌⊎◌, ℕ, true, false, List, [], ◌∷◌, ◌++◌, map, None, Contains, All, AllPairs, String, string_bytes}
use Rattle.std.specs.declared.alloc.Global.{Global}
use Rattle.std.specs.List.{AllZip}
use Rattle.guppy_data.specs.declared.records.LinkRecord.{LinkRecord}
use Rattle.guppy_data.specs.Platform.{Always, Never}
use Rattle.guppy_data.specs.Records.{AreSameButSections, IsRequired}
use Rattle.guppy_graph.specs.DevOnly.{is_dev_only}

-- the IDs of two packages, of which the one declares the other
abbrev pub Pair : Type 0
Pair = List ℕ × List ℕ

abbrev pub pair_texts : String Global × String Global → Pair
pair_texts pair = (string_bytes pair.0, string_bytes pair.1)

-- the packages that a link goes from and to
abbrev pub ends : LinkRecord → Pair
ends r = (r.from, r.to)

-- one of the links goes from the one package to the other
abbrev pub IsLinked : List LinkRecord → Pair → Type 0
IsLinked links pair = Contains (map ends links) pair

-- one of the links goes from the one package to the other, and isn't dev-only
abbrev pub IsFirmlyLinked : List LinkRecord → Pair → Type 0
IsFirmlyLinked links pair = (r : LinkRecord) × Contains links r × (ends r ≡ pair) × (is_dev_only r ≡ false)

-- the same link, but required in its normal section on all platforms
pub record IsMadeFirm (link firm : LinkRecord) : Type 0 where
  pub same : AreSameButSections link firm
  pub normal : IsRequired Always firm.normal
  pub build : firm.build ≡ link.build
  pub dev : firm.dev ≡ link.dev

-- the link is dev-only, though it is declared otherwise, too
abbrev pub IsDeclaredDevOnly : List Pair → LinkRecord → Type 0
IsDeclaredDevOnly declared link = (is_dev_only link ≡ true) × Contains declared (ends link)

-- such a link is required, any other is as it was
abbrev pub IsNeedOf : List Pair → LinkRecord → LinkRecord → Type 0
IsNeedOf declared link need = (IsDeclaredDevOnly declared link × IsMadeFirm link need)
    ⊎ ((¬ IsDeclaredDevOnly declared link) × (need ≡ link))

-- a link named after the package that it goes to, required in its normal section alone, of which every version will
-- do: `*` has no comparator
pub record IsNeed (r : LinkRecord) : Type 0 where
  pub dep_name : string_bytes r.dep_name ≡ r.to
  pub resolved_name : string_bytes r.resolved_name ≡ r.to
  pub version_req : r.version_req.comparators.items ≡ []
  pub registry : r.registry ≡ None
  pub path : r.path ≡ None
  pub normal : IsRequired Always r.normal
  pub build : IsRequired Never r.build
  pub dev : IsRequired Never r.dev

-- no link goes from the one package to the other, and behind the links stands one that does
pub record IsAddedFor (pair : Pair) (links links' : List LinkRecord) : Type 0 where
  pub missing : ¬ IsLinked links pair
  pub link : LinkRecord
  pub links_are : links' ≡ links ++ link ∷ []
  pub ends_are : ends link ≡ pair
  pub is_need : IsNeed link

-- a link is added for the pair, unless there is one
abbrev pub IsLinkedFor : Pair → List LinkRecord → List LinkRecord → Type 0
IsLinkedFor pair links links' = (IsLinked links pair × (links' ≡ links)) ⊎ IsAddedFor pair links links'

-- behind the links stands one for each declared pair that has none
pub record AreAdded (declared : List Pair) (links needs : List LinkRecord) : Type 0 where
  pub added : List LinkRecord
  pub needs_are : needs ≡ links ++ added
  pub of_declared : All (λ r. Contains declared (ends r) × IsNeed r) added
  pub missing : All (λ r. ¬ IsLinked links (ends r)) added
  pub apart : AllPairs (λ r s. ends r ≢ ends s) added
  pub linked : All (IsLinked needs) declared

-- these are the links, of which the declared ones aren't dev-only, and behind them one for each declared pair that has
-- none
pub record AreNeeds (declared : List Pair) (links needs : List LinkRecord) : Type 0 where
  pub firm : List LinkRecord
  pub firm_are : AllZip (IsNeedOf declared) links firm
  pub added : AreAdded declared firm needs
