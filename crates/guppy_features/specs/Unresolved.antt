-- Optional dependencies that are switched on though nothing is resolved for them.
use Rattle.std.specs.Prelude.{◌≡◌, ◌⊎◌, ℕ, ◌<◌, false, Some, slice_get}
use Rattle.std.specs.String.{string_bytes}
use Rattle.std.specs.declared.string.String.{String}
use Rattle.std.specs.declared.alloc.Global.{Global}
use Rattle.guppy_data.specs.declared.records.PackageRecord.{PackageRecord}
use Rattle.guppy_closure.specs.Relations.{HoldsBy}
use Rattle.guppy_features.specs.declared.fact.BuildPlatform.TheVariants.{Target, Host}
use Rattle.guppy_features.specs.Facts.{switched}
use Rattle.guppy_features.specs.Questions.{Question}
use Rattle.guppy_features.specs.Resolved.{is_resolved}
use Rattle.guppy_features.specs.Follows.{FollowsFor}

-- the package's optional dependency of the place is switched on, on one side or on both
abbrev pub IsSwitchedOn : Question → ℕ → ℕ → Type 0
IsSwitchedOn q p n = HoldsBy (FollowsFor q) (switched p Target n) ⊎ HoldsBy (FollowsFor q) (switched p Host n)

-- it is switched on, and no link is that of an optional dependency of its name
pub record IsUnresolved (q : Question) (p n : ℕ) : Type 0 where
  pub switched_on : IsSwitchedOn q p n
  pub record_is : PackageRecord
  pub found : slice_get q.graph.packages p ≡ Some record_is
  pub name : String Global
  pub called : slice_get record_is.optional_deps.keys n ≡ Some name
  pub lacks : is_resolved q.graph p (string_bytes name) ≡ false

-- this is the first of the package's that is so
pub record IsFirstOf (q : Question) (p n : ℕ) : Type 0 where
  pub is : IsUnresolved q p n
  pub first : (m : ℕ) → m < n → ¬ IsUnresolved q p m

-- none of the package's is so
abbrev pub AreResolvedOf : Question → ℕ → Type 0
AreResolvedOf q p = (n : ℕ) → ¬ IsUnresolved q p n

-- this is the first of all, by the position of the package and the place in its record
pub record IsFirstUnresolved (q : Question) (p n : ℕ) : Type 0 where
  pub here : IsFirstOf q p n
  pub before : (o : ℕ) → o < p → AreResolvedOf q o

-- none is so
abbrev pub AreResolved : Question → Type 0
AreResolved q = (p : ℕ) → AreResolvedOf q p
