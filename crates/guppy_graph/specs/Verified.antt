-- Verified graphs, and the first fault of a graph that is none.
use Rattle.std.specs.Prelude.{◌≡◌, ◌⊎◌, ℕ, ◌<◌, List, length, map, false, true, codes, All, Ok, slice_get, IsSomeAnd}
use Rattle.semver.specs.Eval.{matches_all}
use Rattle.semver.specs.Identifiers.{comparator_view}
use Rattle.semver.specs.Parse.{req_of}
use Rattle.semver.specs.declared.Version.{Version}
use Rattle.semver.specs.declared.VersionReq.{VersionReq}
use Rattle.guppy_search.specs.declared.graph_core.link.Link.{Link}
use Rattle.guppy_search.specs.declared.ix.direction.DependencyDirection.TheVariants.{Forward}
use Rattle.guppy_search.specs.Links.{links_at}
use Rattle.guppy_data.specs.declared.records.PackageRecord.{PackageRecord}
use Rattle.guppy_data.specs.declared.records.LinkRecord.{LinkRecord}
use Rattle.guppy_data.specs.declared.records.BuildTargetRecord.{BuildTargetRecord}
use Rattle.guppy_data.specs.declared.texts.dependency_kind.DependencyKind.{DependencyKind}
use Rattle.guppy_data.specs.declared.texts.fault.VerifyFault.{VerifyFault}
use Rattle.guppy_data.specs.declared.texts.fault.VerifyFault.TheVariants.{TargetKind as WrongKind, Version as WrongVersion, NoSection, Cycle}
use Rattle.guppy_data.specs.declared.texts.error.Error.{Error}
use Rattle.guppy_data.specs.declared.texts.error.Error.TheVariants.{PackageGraphInternalError, OutOfMemory}
use Rattle.guppy_data.specs.BuildTargetId.{TargetId, Library, BuildScript, Binary, Example, Test, Benchmark, recorded_id}
use Rattle.guppy_data.specs.BuildTargetKind.{TargetKind, LibraryOrExample, ProcMacro, Binary as BinaryKind, recorded_kind}
use Rattle.guppy_graph.specs.FirmCycles.{IsFirmCycle}
use Rattle.guppy_graph.specs.First.{IsFirstWithout}
use Rattle.guppy_graph.specs.Targets.{AreTargetsById}
use Rattle.guppy_graph.specs.DevOnly.{is_absent}
use Rattle.guppy_graph.specs.Graph.{GraphData}
use Rattle.guppy_graph.specs.Sections.{section_of}

-- the requirement is the one that is read from `*`
abbrev pub IsStar : VersionReq → Type 0
IsStar req = req_of (codes "*") ≡ Ok (map comparator_view req.comparators.items)

-- the requirement is the one read from `*`, which accepts every version, pre-releases too, or it
-- matches the version
abbrev pub Accepts : VersionReq → Version → Type 0
Accepts req version = IsStar req ⊎ (matches_all req.comparators.items version ≡ true)

-- the package that the link leads to has a version that the link accepts
abbrev pub HasVersion : List PackageRecord → Link LinkRecord → Type 0
HasVersion packages l =
    IsSomeAnd (slice_get packages l.to) (λ r. Accepts l.edge.version_req r.version)

-- some section of the link has a status other than never
abbrev pub HasSection : LinkRecord → Type 0
HasSection r = (kind : DependencyKind) × (is_absent (section_of kind r) ≡ false)

-- a library or an example, of whatever crate types
abbrev pub IsLibraryOrExample : TargetKind → Type 0
IsLibraryOrExample kind = (types : List (List ℕ)) × (kind ≡ LibraryOrExample types)

-- a target with the ID may be of the kind
abbrev pub FitsId : TargetId → TargetKind → Type 0
FitsId Library kind = IsLibraryOrExample kind ⊎ (kind ≡ ProcMacro)
FitsId (Example name) kind = IsLibraryOrExample kind
FitsId BuildScript kind = kind ≡ BinaryKind
FitsId (Binary name) kind = kind ≡ BinaryKind
FitsId (Test name) kind = kind ≡ BinaryKind
FitsId (Benchmark name) kind = kind ≡ BinaryKind

-- the target is of a kind that its ID allows
abbrev pub HasFittingKind : BuildTargetRecord → Type 0
HasFittingKind target = FitsId (recorded_id target.id) (recorded_kind target.kind)

-- so is each target of the package
abbrev pub AreKindsFitting : PackageRecord → Type 0
AreKindsFitting r = All HasFittingKind r.build_targets.items

-- each link's target has a version that the link accepts, each link has a section, and each build
-- target is of a kind that its ID allows
pub record IsVerified (g : GraphData) : Type 0 where
  pub versions : All (HasVersion g.packages) g.links
  pub sections : All (λ l. HasSection l.edge) g.links
  pub kinds : All AreKindsFitting g.packages

-- in the order of the IDs, at the place stands the package's first target that is of a kind that
-- its ID doesn't allow
pub record IsFirstMisfit (r : PackageRecord) (place : ℕ) : Type 0 where
  pub listed : List BuildTargetRecord
  pub by_id : AreTargetsById r.build_targets.items listed
  pub first : IsFirstWithout HasFittingKind listed place

module _ (g : GraphData) where
  abbrev pub HasVersionAt : ℕ → Type 0
  HasVersionAt n = IsSomeAnd (slice_get g.links n) (HasVersion g.packages)

  abbrev pub HasSectionAt : ℕ → Type 0
  HasSectionAt n = IsSomeAnd (slice_get g.links n) (λ l. HasSection l.edge)

  -- the link with the number breaks no rule
  abbrev pub IsLinkVerified : ℕ → Type 0
  IsLinkVerified n = HasVersionAt n × HasSectionAt n

  abbrev pub AreKindsFittingAt : ℕ → Type 0
  AreKindsFittingAt p = IsSomeAnd (slice_get g.packages p) AreKindsFitting

  -- no target of the package at the position breaks a rule, and no link that leaves it
  pub record IsPackageVerified (p : ℕ) : Type 0 where
    pub kinds : AreKindsFittingAt p
    pub links : All IsLinkVerified (links_at Forward g.links p)

  -- the fault tells what is wrong with the link of the number, its version first
  abbrev pub IsLinkFault : ℕ → VerifyFault → Type 0
  IsLinkFault n fault = ((fault ≡ WrongVersion n) × (¬ HasVersionAt n))
      ⊎ ((fault ≡ NoSection n) × HasVersionAt n × (¬ HasSectionAt n))

  -- the fault is of the first target of the package, by ID, that breaks a rule
  abbrev pub IsTargetFault : ℕ → VerifyFault → Type 0
  IsTargetFault p fault = (place : ℕ) × (fault ≡ WrongKind p place)
      × IsSomeAnd (slice_get g.packages p) (λ r. IsFirstMisfit r place)

  -- the fault is of the first link that leaves the package, by number, that breaks a rule
  pub record IsLeavingLinkFault (p : ℕ) (fault : VerifyFault) : Type 0 where
    pub place : ℕ
    pub first : IsFirstWithout IsLinkVerified (links_at Forward g.links p) place
    pub tells : IsLinkFault first.item fault

  -- the fault is the first of the package: one of its targets, or, where they break no rule, of the
  -- links that leave it
  abbrev pub IsPackageFault : ℕ → VerifyFault → Type 0
  IsPackageFault p fault =
      IsTargetFault p fault ⊎ (AreKindsFittingAt p × IsLeavingLinkFault p fault)

  -- the fault is the first of the first package that has one
  pub record IsFirstVerifyFault (fault : VerifyFault) : Type 0 where
    pub position : ℕ
    pub within : position < length g.packages
    pub before : (p : ℕ) → p < position → IsPackageVerified p
    pub tells : IsPackageFault position fault

  -- the fault tells a cycle over links that aren't dev-only
  abbrev pub IsCycleFault : VerifyFault → Type 0
  IsCycleFault fault = (ids : _) × (fault ≡ Cycle ids) × IsFirmCycle g ids.items

  -- the fault is the first of a graph that is no verified graph, or tells a cycle of one that is
  abbrev pub IsVerifyFault : VerifyFault → Type 0
  IsVerifyFault fault = IsFirstVerifyFault fault ⊎ (IsVerified g × IsCycleFault fault)

-- the error tells a fault of which P holds, or that memory ran out
abbrev pub TellsVerifyFault : (VerifyFault → Type 0) → Error → Type 0
TellsVerifyFault P (PackageGraphInternalError f) = P f
TellsVerifyFault P OutOfMemory = Unit {0}
TellsVerifyFault P _ = ⊥
