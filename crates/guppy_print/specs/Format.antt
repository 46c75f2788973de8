-- What a program is asked, how it reads its input, and what it calls packages.
use Rattle.std.specs.Prelude.{◌≡◌, ◌<◌, ℕ, List, [], length, map, codes, Vec}
use Rattle.std.specs.declared.alloc.Global.{Global}
use Rattle.std.specs.List.{join_by}
use Rattle.guppy_data.specs.declared.records.Details.{Details}
use Rattle.guppy_data.specs.declared.records.PackageRecord.{PackageRecord}
use Rattle.guppy_data.specs.declared.records.LinkRecord.{LinkRecord}
use Rattle.guppy_data.specs.declared.records.WorkspaceRecord.{WorkspaceRecord}
use Rattle.guppy_data.specs.declared.texts.error.Error.TheVariants.{UnknownPackageId, OutOfMemory}
use Rattle.guppy_process.specs.Cause.{Cause, library, bad_arguments, ambiguous, bad_input, OrMemory}
use Rattle.guppy_command.specs.Asked.{Asked}

pub record Format (Fault : Type 0) : Type 1 where
  -- the input says these records, with details or without
  pub says : Details → List ℕ → List PackageRecord → List LinkRecord → WorkspaceRecord → Type 0
  -- the input says no such records, and the fault tells why
  pub refuses : Details → List ℕ → Fault → Type 0
  -- the input says that the member with the one ID declares the one with the other, whether or not a link does
  pub declares : List ℕ → List ℕ → List ℕ → Type 0
  -- the arguments ask this, of which the files that they name have some
  pub asks : (List ℕ → List ℕ → Type 0) → List (List ℕ) → Asked → Type 0
  -- the arguments ask nothing, and the fault tells why
  pub misreads : (List ℕ → List ℕ → Type 0) → List (List ℕ) → Fault → Type 0
  -- what is printed for that of the packages which has the ID
  pub text : List PackageRecord → List ℕ → List ℕ
  -- the IDs of those of the packages that a word may mean
  pub meant : List PackageRecord → List ℕ → List (List ℕ)
  -- what the fault tells of a word that means none of the packages
  pub tells_unknown : List PackageRecord → List ℕ → Fault → Type 0
  -- what the fault tells of a cycle of packages with these IDs, and with this text of what they are called
  pub tells_cycle : Vec (List ℕ) Global → List ℕ → Fault → Type 0
  -- the fault has this cause, and is told by this text
  pub tells : Fault → Cause → List ℕ → Type 0

-- the arguments ask nothing, and the fault tells why, or memory ran out
abbrev pub IsAskingFault : {Fault : Type 0} → Format Fault → (List ℕ → List ℕ → Type 0) → List (List ℕ) → Fault
    → Cause → Type 0
IsAskingFault format has args fault bad_arguments = format.misreads has args fault
IsAskingFault format has args fault (library error) = OrMemory ⊥ error
IsAskingFault format has args fault _ = ⊥

-- the input says no such records, and the fault tells why, or memory ran out
abbrev pub IsReadingFault : {Fault : Type 0} → Format Fault → Details → List ℕ → Fault → Cause → Type 0
IsReadingFault format details input fault bad_input = format.refuses details input fault
IsReadingFault format details input fault (library error) = OrMemory ⊥ error
IsReadingFault format details input fault _ = ⊥

-- these texts, parted by ` or `
abbrev pub alternatives : List (List ℕ) → List ℕ
alternatives texts = join_by (λ text. text) (codes " or ") texts

-- the word means no package, of which the fault tells, or it may mean several, whose texts are told, or
-- memory ran out
abbrev pub IsUnclear : {Fault : Type 0} → Format Fault → List PackageRecord → List ℕ → Fault → Cause → Type 0
IsUnclear format packages word fault (library (UnknownPackageId id)) = (id ≡ word)
    × (format.meant packages word ≡ []) × format.tells_unknown packages word fault
IsUnclear format packages word fault (ambiguous given choices) = (given ≡ word)
    × (1 < length (format.meant packages word))
    × (choices ≡ alternatives (map (format.text packages) (format.meant packages word)))
IsUnclear format packages word fault (library OutOfMemory) = Unit {0}
IsUnclear format packages word fault _ = ⊥
