-- The package graph of the records that an input says, with the links that are asked for.
use Rattle.std.specs.Prelude.{◌≡◌, ◌↔◌, ℕ, Bool, true, false, ◌||◌, List, Option, Some, None, Contains, if◌then◌else◌}
use Rattle.guppy_data.specs.declared.records.Details.{Details}
use Rattle.guppy_data.specs.declared.records.Details.TheVariants.{With, Without}
use Rattle.guppy_data.specs.declared.records.PackageRecord.{PackageRecord}
use Rattle.guppy_data.specs.declared.records.LinkRecord.{LinkRecord}
use Rattle.guppy_data.specs.declared.records.WorkspaceRecord.{WorkspaceRecord}
use Rattle.guppy_data.specs.declared.texts.error.Error.{Error}
use Rattle.guppy_graph.specs.Accepted.{IsAccepted}
use Rattle.guppy_graph.specs.Graph.{GraphData, Holds}
use Rattle.guppy_graph.specs.Refused.{IsRefusal}
use Rattle.guppy_process.specs.Cause.{Cause, library, bad_input, OrMemory}
use Rattle.guppy_command.specs.Asked.{Asked}
use Rattle.guppy_command.specs.Command.{Command, built, features, why_feature, publish_order, affected}
use Rattle.guppy_command.specs.Options.{kept_links}
use Rattle.guppy_data.specs.Platform.{Question, OnAny}
use Rattle.guppy_target.specs.Platform.{PlatformData}
use Rattle.guppy_platforms.specs.Kept.{AreKept, are_named}
use Rattle.guppy_publish.specs.Needs.{Pair, AreNeeds}
use Rattle.guppy_print.specs.Format.{Format}

-- the pairs are those of members of which the one declares the other, as the input says
abbrev pub AreDeclared : {Fault : Type 0} → Format Fault → List ℕ → List Pair → Type 0
AreDeclared format input declared = (from to : List ℕ) → Contains declared (from, to) ↔ format.declares input from to

-- these are the links that the command is about: for `publish-order` those by which members need each other to be
-- published, with what the input says that they declare, for any other command the links as they are
abbrev pub AreAskedOf : {Fault : Type 0} → Format Fault → Command → List ℕ → List LinkRecord → List LinkRecord → Type 0
AreAskedOf format (publish_order publishable) input links asked_of =
    (declared : List Pair) × AreDeclared format input declared × AreNeeds declared links asked_of
AreAskedOf format _ input links asked_of = asked_of ≡ links

-- whether the command asks what Cargo builds
abbrev pub asks_for_builds : Command → Bool
asks_for_builds (built request) = true
asks_for_builds (features request word) = true
asks_for_builds (why_feature request word name) = true
asks_for_builds _ = false

-- whether the command asks for build targets, which say where sources lie, and what is built
abbrev pub asks_for_targets : Command → Bool
asks_for_targets (affected ignored also paths) = true
asks_for_targets command = asks_for_builds command

-- whether records are read with details: for build targets, which also say what runs on the host
abbrev pub details_for : Asked → Details
details_for asked = if are_named asked.question || asks_for_targets asked.command then With else Without

-- the platforms on which links count: any where it is asked what Cargo builds, which looks at each itself
abbrev pub counted_on : Asked → Question PlatformData
counted_on asked = if asks_for_builds asked.command then OnAny else asked.question

module _ {Fault : Type 0} (format : Format Fault) (asked : Asked) (input : List ℕ) where
  -- the input says records, and P holds of them with what counts of their links on the platforms in question or, of what
  -- runs there, on the host, of that the links of these kinds, or all, and with these what the command asks about
  pub record OfRecords (P : List PackageRecord → List LinkRecord → WorkspaceRecord → Type 0) : Type 0 where
    pub packages : List PackageRecord
    pub links : List LinkRecord
    pub workspace : WorkspaceRecord
    pub said : format.says (details_for asked) input packages links workspace
    pub counting : List LinkRecord
    pub counted : AreKept (counted_on asked) asked.host packages links counting
    pub asked_links : List LinkRecord
    pub are_asked : AreAskedOf format asked.command input (kept_links asked.options.kinds counting) asked_links
    pub holds : P packages asked_links workspace

  -- these records break no rule, and the graph holds exactly these
  abbrev pub IsLoaded : GraphData → Type 0
  IsLoaded g = OfRecords (λ packages links workspace.
      IsAccepted packages links workspace × Holds g packages links workspace)

  -- the error tells the first fault of these records
  abbrev pub AreRefused : Error → Type 0
  AreRefused error = OfRecords (λ packages links workspace. IsRefusal packages links workspace error)

  -- the input says no such records, and the fault tells why, or these records break a rule, or memory ran out
  abbrev pub IsLoadFault : Fault → Cause → Type 0
  IsLoadFault fault bad_input = format.refuses (details_for asked) input fault
  IsLoadFault fault (library error) = OrMemory (AreRefused error) error
  IsLoadFault fault _ = ⊥

-- the graph of the state before, where its input is given, with the links that are asked for
abbrev pub IsLoadedBefore : {Fault : Type 0} → Format Fault → Asked → Option GraphData → Type 0
IsLoadedBefore format asked None = asked.before ≡ None
IsLoadedBefore format asked (Some before) =
    (input : List ℕ) × (asked.before ≡ Some input) × IsLoaded format asked input before

-- the input of the state before says no graph, and the text tells why
pub record IsBadBefore {Fault : Type 0} (format : Format Fault) (asked : Asked) (text : List ℕ) : Type 0 where
  pub input : List ℕ
  pub given : asked.before ≡ Some input
  pub fault : Fault
  pub cause : Cause
  pub why : IsLoadFault format asked input fault cause
  pub told : format.tells fault cause text
