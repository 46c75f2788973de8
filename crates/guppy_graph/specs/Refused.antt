-- What an error tells.
use Rattle.std.specs.Prelude.{◌≡◌, ℕ, List, [], ◌∷◌, ◌++◌, All, Option, Some, None, IsSomeAnd}
use Rattle.guppy_search.specs.declared.graph_core.graph.GraphFault.{GraphFault}
use Rattle.guppy_search.specs.declared.graph_core.graph.GraphFault.TheVariants.{TooManyNodes, TooManyLinks, UnknownEnd, RepeatedLink, OutOfMemory as GraphMemory}
use Rattle.guppy_data.specs.declared.texts.fault.ConstructFault.{ConstructFault}
use Rattle.guppy_data.specs.declared.texts.fault.ConstructFault.TheVariants.{TooManyPackages, UnknownLinkEnd, TooManyLinks as TooManyLinkRecords, RepeatedLink as RepeatedLinkRecord}
use Rattle.guppy_data.specs.declared.texts.error.Error.{Error}
use Rattle.guppy_data.specs.declared.texts.error.Error.TheVariants.{PackageGraphConstructError, UnknownPackageId, UnknownWorkspacePath, UnknownWorkspaceName, OutOfMemory}
use Rattle.guppy_data.specs.declared.records.PackageRecord.{PackageRecord}
use Rattle.guppy_data.specs.declared.records.LinkRecord.{LinkRecord}
use Rattle.guppy_data.specs.declared.records.WorkspaceRecord.{WorkspaceRecord}
use Rattle.std.specs.String.{string_bytes}
use Rattle.guppy_graph.specs.Ids.{IsKnown}
use Rattle.guppy_graph.specs.Members.{IsMemberPath, IsMemberName}
use Rattle.guppy_graph.specs.Accepted.{IsFirstFault}

-- the error tells a fault of which P holds, or that memory ran out
abbrev pub TellsFault : (ConstructFault → Type 0) → Error → Type 0
TellsFault P (PackageGraphConstructError f) = P f
TellsFault P OutOfMemory = Unit {0}
TellsFault P _ = ⊥

-- the error tells the first fault of the records, or that memory ran out
abbrev pub IsRefusal : List PackageRecord → List LinkRecord → WorkspaceRecord → Error → Type 0
IsRefusal packages links workspace = TellsFault (IsFirstFault packages links workspace)

-- the ID that the error names as no package's
abbrev pub named_id : Error → Option (List ℕ)
named_id (UnknownPackageId id) = Some id
named_id _ = None

-- the path that the error names as no member's
abbrev pub named_path : Error → Option (List ℕ)
named_path (UnknownWorkspacePath path) = Some path
named_path _ = None

-- the name that the error names as no member's
abbrev pub named_name : Error → Option (List ℕ)
named_name (UnknownWorkspaceName name) = Some (string_bytes name)
named_name _ = None

-- the error names a text of which P holds, as `named` tells it, or tells that memory ran out
abbrev pub NamesText : (Error → Option (List ℕ)) → (List ℕ → Type 0) → Error → Type 0
NamesText named P OutOfMemory = Unit {0}
NamesText named P error = IsSomeAnd (named error) P

-- the error names an ID of which P holds, or tells that memory ran out
abbrev pub NamesId : (List ℕ → Type 0) → Error → Type 0
NamesId = NamesText named_id

-- the error names a path of which P holds, or tells that memory ran out
abbrev pub NamesPath : (List ℕ → Type 0) → Error → Type 0
NamesPath = NamesText named_path

-- the error names a name of which P holds, or tells that memory ran out
abbrev pub NamesName : (List ℕ → Type 0) → Error → Type 0
NamesName = NamesText named_name

-- the text is the first of the list that isn't known
pub record IsFirstNot (Known : List ℕ → Type 0) (texts : List (List ℕ))
    (text : List ℕ) : Type 0 where
  pub before : List (List ℕ)
  pub after : List (List ℕ)
  pub place : texts ≡ before ++ text ∷ after
  pub known : All Known before
  pub unknown : ¬ Known text

-- the list ends in the text, the first of it that isn't known
pub record EndsInFirstNot (Known : List ℕ → Type 0) (texts : List (List ℕ))
    (text : List ℕ) : Type 0 where
  pub before : List (List ℕ)
  pub place : texts ≡ before ++ text ∷ []
  pub known : All Known before
  pub unknown : ¬ Known text

-- the ID is the first of the list that is no package's
abbrev pub IsFirstUnknown : List PackageRecord → List (List ℕ) → List ℕ → Type 0
IsFirstUnknown packages = IsFirstNot (IsKnown packages)

-- the path is the first of the list that is no member's
abbrev pub IsFirstUnknownPath : List PackageRecord → List (List ℕ) → List ℕ → Type 0
IsFirstUnknownPath packages = IsFirstNot (IsMemberPath packages)

-- the name is the first of the list that is no member's
abbrev pub IsFirstUnknownName : List PackageRecord → List (List ℕ) → List ℕ → Type 0
IsFirstUnknownName packages = IsFirstNot (IsMemberName packages)

-- the list ends in the ID, the first of it that is no package's
abbrev pub EndsInUnknown : List PackageRecord → List (List ℕ) → List ℕ → Type 0
EndsInUnknown packages = EndsInFirstNot (IsKnown packages)

-- the list ends in the path, the first of it that is no member's
abbrev pub EndsInUnknownPath : List PackageRecord → List (List ℕ) → List ℕ → Type 0
EndsInUnknownPath packages = EndsInFirstNot (IsMemberPath packages)

-- the list ends in the name, the first of it that is no member's
abbrev pub EndsInUnknownName : List PackageRecord → List (List ℕ) → List ℕ → Type 0
EndsInUnknownName packages = EndsInFirstNot (IsMemberName packages)

-- the error of a fault of a graph's parts
abbrev pub error_of : GraphFault → Error
error_of (RepeatedLink l) = PackageGraphConstructError (RepeatedLinkRecord l)
error_of (UnknownEnd l) = PackageGraphConstructError (UnknownLinkEnd l)
error_of TooManyNodes = PackageGraphConstructError TooManyPackages
error_of TooManyLinks = PackageGraphConstructError TooManyLinkRecords
error_of GraphMemory = OutOfMemory
