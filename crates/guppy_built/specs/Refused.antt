-- Why nothing is told of what a choice means to Cargo.
use Rattle.std.specs.Prelude.{◌≡◌, ⊤, ℕ, List, All, IsSomeAnd, Some, option_map, slice_get, take}
use Rattle.std.specs.String.{string_bytes}
use Rattle.guppy_data.specs.declared.records.PackageRecord.{PackageRecord}
use Rattle.guppy_graph.specs.Graph.{GraphData}
use Rattle.guppy_graph.specs.Ids.{HasId}
use Rattle.guppy_graph.specs.Members.{IsMember}
use Rattle.guppy_features.specs.Questions.{Question, question}
use Rattle.guppy_features.specs.Unresolved.{IsFirstUnresolved}
use Rattle.guppy_features.specs.declared.options.CargoOptions.{CargoOptions}
use Rattle.guppy_built.specs.declared.fault.BuiltFault.{BuiltFault}
use Rattle.guppy_built.specs.declared.fault.BuiltFault.TheVariants.{NoMember, Unresolved, OutOfMemory}
use Rattle.guppy_built.specs.Asked.{Choice, IsAsked, IsChoiceFault}

-- the ID is that of a member
abbrev pub IsOfMember : List PackageRecord → List ℕ → Type 0
IsOfMember packages id = (p : ℕ) × HasId packages id p × IsMember packages p

-- the ID is that of a package that is no member
abbrev pub IsOfOther : List PackageRecord → List ℕ → Type 0
IsOfOther packages id = (p : ℕ) × HasId packages id p × (¬ IsMember packages p)

-- of these IDs the one at the place is that of no member, and none before it is
abbrev pub IsFirstOther : List PackageRecord → List (List ℕ) → ℕ → Type 0
IsFirstOther packages ids place = All (IsOfMember packages) (take place ids)
    × IsSomeAnd (slice_get ids place) (IsOfOther packages)

-- why none are taken for chosen members
abbrev pub IsMembersFault : List PackageRecord → List (List ℕ) → BuiltFault → Type 0
IsMembersFault packages ids (NoMember place) = IsFirstOther packages ids place
IsMembersFault packages ids OutOfMemory = ⊤
IsMembersFault packages ids _ = ⊥

-- the optional dependency of this name, of the package with the ID, is the first that is switched on and isn't resolved
pub record IsFirstLacking (q : Question) (id name : List ℕ) : Type 0 where
  pub position : ℕ
  pub place : ℕ
  pub first : IsFirstUnresolved q position place
  pub record_is : PackageRecord
  pub found : slice_get q.graph.packages position ≡ Some record_is
  pub id_is : record_is.id ≡ id
  pub name_is : option_map string_bytes (slice_get record_is.optional_deps.keys place) ≡ Some name

-- why not all that is switched on is taken for resolved
abbrev pub IsLackingFault : Question → BuiltFault → Type 0
IsLackingFault q (Unresolved owner dependency) = IsFirstLacking q owner.now dependency.now
IsLackingFault q OutOfMemory = ⊤
IsLackingFault q _ = ⊥

-- it is the first by the choice
pub record IsLackingFor (g : GraphData) (c : Choice) (id name : List ℕ) : Type 0 where
  pub options : CargoOptions
  pub members : List ℕ
  pub asked : IsAsked g c options members
  pub first : IsFirstLacking (question g options) id name

-- why nothing is told by the choice
abbrev pub IsBuiltFault : GraphData → Choice → BuiltFault → Type 0
IsBuiltFault g c (NoMember place) = IsFirstOther g.packages c.members place
IsBuiltFault g c (Unresolved owner dependency) = IsLackingFor g c owner.now dependency.now
IsBuiltFault g c fault = IsChoiceFault g c fault
