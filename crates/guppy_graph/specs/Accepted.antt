-- The rules of the records of a package graph, in their order.
use Rattle.std.specs.Prelude.{◌≡◌, ℕ, ◌<◌, ◌≤◌, List, [], length, All}
use Rattle.guppy_data.specs.declared.texts.fault.ConstructFault.{ConstructFault}
use Rattle.guppy_data.specs.declared.texts.fault.ConstructFault.TheVariants.{TooManyPackages, RepeatedPackageId, RepeatedBuildTarget, UnnamedBuildTarget, RepeatedWorkspacePath, RepeatedWorkspaceName, UnknownDefaultMember, TooManyLinks, UnknownLinkEnd, RepeatedLink}
use Rattle.guppy_data.specs.declared.records.PackageRecord.{PackageRecord}
use Rattle.guppy_data.specs.declared.records.LinkRecord.{LinkRecord}
use Rattle.guppy_data.specs.declared.records.WorkspaceRecord.{WorkspaceRecord}
use Rattle.guppy_graph.specs.First.{IsFirstWithout}
use Rattle.guppy_graph.specs.Keys.{DifferBelow, IsFirstRepeat}
use Rattle.guppy_graph.specs.Ids.{HasId, IsKnown}
use Rattle.guppy_graph.specs.Members.{HasPath, HasName}
use Rattle.guppy_graph.specs.Targets.{AreTargetsDistinct, AreTargetsNamed, IsFirstRepeatedTarget, IsFirstUnnamedTarget}
use Rattle.guppy_graph.specs.Links.{AreEndsKnown, DistinctPairsBelow, IsFirstRepeatedLink}

pub data Rule : Type 0 where
  few_packages : Rule
  distinct_ids : Rule
  distinct_targets : Rule
  named_targets : Rule
  distinct_paths : Rule
  distinct_names : Rule
  known_members : Rule
  few_links : Rule
  known_ends : Rule
  distinct_pairs : Rule

-- the rule's place in the order
abbrev pub place : Rule → ℕ
place few_packages = 0
place distinct_ids = 1
place distinct_targets = 2
place named_targets = 3
place distinct_paths = 4
place distinct_names = 5
place known_members = 6
place few_links = 7
place known_ends = 8
place distinct_pairs = 9

module _ (packages : List PackageRecord) (links : List LinkRecord)
    (workspace : WorkspaceRecord) where
  -- the records keep the rule
  abbrev pub Kept : Rule → Type 0
  Kept few_packages = length packages ≤ 4294967295
  Kept distinct_ids = DifferBelow (HasId packages) (length packages)
  Kept distinct_targets = All AreTargetsDistinct packages
  Kept named_targets = All AreTargetsNamed packages
  Kept distinct_paths = DifferBelow (HasPath packages) (length packages)
  Kept distinct_names = DifferBelow (HasName packages) (length packages)
  Kept known_members = All (IsKnown packages) workspace.default_members.items
  Kept few_links = length links ≤ 4294967295
  Kept known_ends = All (AreEndsKnown packages) links
  Kept distinct_pairs = DistinctPairsBelow links (length links)

  -- the records break the rule, and the fault tells it, at the lowest index
  abbrev pub Breaks : Rule → ConstructFault → Type 0
  Breaks few_packages fault = (fault ≡ TooManyPackages) × (4294967295 < length packages)
  Breaks distinct_ids fault =
      (p : ℕ) × (fault ≡ RepeatedPackageId p) × IsFirstRepeat (HasId packages) p
  Breaks distinct_targets fault =
      (p t : ℕ) × (fault ≡ RepeatedBuildTarget p t) × IsFirstRepeatedTarget packages p t
  Breaks named_targets fault =
      (p t : ℕ) × (fault ≡ UnnamedBuildTarget p t) × IsFirstUnnamedTarget packages p t
  Breaks distinct_paths fault =
      (p : ℕ) × (fault ≡ RepeatedWorkspacePath p) × IsFirstRepeat (HasPath packages) p
  Breaks distinct_names fault =
      (p : ℕ) × (fault ≡ RepeatedWorkspaceName p) × IsFirstRepeat (HasName packages) p
  Breaks known_members fault = (i : ℕ) × (fault ≡ UnknownDefaultMember i)
      × IsFirstWithout (IsKnown packages) workspace.default_members.items i
  Breaks few_links fault = (fault ≡ TooManyLinks) × (4294967295 < length links)
  Breaks known_ends fault =
      (l : ℕ) × (fault ≡ UnknownLinkEnd l) × IsFirstWithout (AreEndsKnown packages) links l
  Breaks distinct_pairs fault =
      (l : ℕ) × (fault ≡ RepeatedLink l) × IsFirstRepeatedLink links l

  -- the records keep every rule
  abbrev pub IsAccepted : Type 0
  IsAccepted = (rule : Rule) → Kept rule

  -- the fault tells the first rule that the records break
  pub record IsFirstFault (fault : ConstructFault) : Type 0 where
    pub rule : Rule
    pub broken : Breaks rule fault
    pub earlier : (other : Rule) → place other < place rule → Kept other

-- the packages and the workspace, without links, keep every rule
abbrev pub ArePackagesAccepted : List PackageRecord → WorkspaceRecord → Type 0
ArePackagesAccepted packages workspace = IsAccepted packages [] workspace
