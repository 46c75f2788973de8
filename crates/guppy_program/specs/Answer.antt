-- What a command answers of a package graph, when it is refused, and what is shown of the answer.
use Rattle.std.specs.Prelude.{◌≡◌, ◌↔◌, ◌⊎◌, ◌++◌, ◌<◌, ℕ, Bool, true, false, IsTrue, Option, Some, None, List, [], ◌∷◌, length, map, slice_get, replicate, All, Contains, IsSomeAnd, ◌&&◌, is_some, if◌then◌else◌}
use Rattle.std.specs.List.{AllZip, concat, filter, list_all, list_any}
use Rattle.std.specs.Str.{bytes_eq}
use Rattle.guppy_search.specs.declared.ix.direction.DependencyDirection.{DependencyDirection}
use Rattle.guppy_search.specs.Reach.{LinkStep, ReachedFrom}
use Rattle.guppy_data.specs.declared.records.PackageRecord.{PackageRecord}
use Rattle.guppy_data.specs.declared.texts.error.Error.TheVariants.{UnknownPackageId, PackageGraphInternalError, OutOfMemory}
use Rattle.guppy_data.specs.declared.texts.fault.VerifyFault.{VerifyFault}
use Rattle.guppy_data.specs.declared.texts.fault.VerifyFault.TheVariants.{Cycle}
use Rattle.guppy_data.specs.Texts.{round_text}
use Rattle.guppy_graph.specs.Ids.{HasId, IsKnown}
use Rattle.guppy_graph.specs.Cycles.{AreCyclic, AreOnOne}
use Rattle.guppy_graph.specs.Graph.{GraphData, IsInOrder}
use Rattle.guppy_graph.specs.Depends.{DependsOn}
use Rattle.guppy_graph.specs.Members.{IsMember, member_path}
use Rattle.guppy_graph.specs.Refused.{IsFirstNot}
use Rattle.guppy_graph.specs.FirmCycles.{HasNoFirmCycle}
use Rattle.guppy_graph.specs.Verified.{IsVerified, IsVerifyFault as IsGraphFault}
use Rattle.guppy.specs.Listed.{ids_at}
use Rattle.guppy.specs.ListedCycles.{cycles_of}
use Rattle.guppy.specs.Query.{IsSetWhere, SetData}
use Rattle.guppy.specs.Rooted.{AreRootIds}
use Rattle.guppy.specs.Views.{LinkData}
use Rattle.guppy.specs.Walked.{AreWalkedLinks}
use Rattle.guppy_affected.specs.Affected.{AreAffectedIds}
use Rattle.guppy_affected.specs.Folders.{Given}
use Rattle.guppy_extras.specs.Duplicates.{AreDuplicates}
use Rattle.guppy_publish.specs.Publishing.{ArePublishIds}
use Rattle.guppy_extras.specs.Walk.{NoWalk, Between}
use Rattle.guppy_process.specs.Cause.{Cause, library, ambiguous, no_walk, unpublishable, build}
use Rattle.guppy_command.specs.declared.options.Kinds.{Kinds}
use Rattle.guppy_command.specs.declared.options.Options.{Options}
use Rattle.guppy_command.specs.Command.{BuildRequest, Command, reach, depends, why, order, roots, links, cycles, duplicates, built, features, why_feature, verify, publish_order, dot, affected}
use Rattle.guppy_dot.specs.Dot.{Drawing, IsDrawing, IsDrawn, IsNamed, among}
use Rattle.guppy_built.specs.Asked.{Choice}
use Rattle.guppy_built.specs.Features.{AreFeatures, FeatureData}
use Rattle.guppy_built.specs.Names.{StepData}
use Rattle.guppy_built.specs.Rows.{AreBuilt, Row}
use Rattle.guppy_built.specs.Why.{IsWhy}
use Rattle.guppy_print.specs.Answer.{Answer, package_set, package_list, package_links, package_rows, package_needs, package_steps, built_rows, reasons, feature_rows, truth, all_well, drawing}
use Rattle.guppy_program.specs.Builds.{Places, IsChosen, IsBuildFault}
use Rattle.guppy_print.specs.Format.{Format, alternatives}
use Rattle.guppy_program.specs.Meant.{Means}
use Rattle.guppy_program.specs.Publish.{is_publishable, IsFree, IsHindranceTold}
use Rattle.guppy_program.specs.Steps.{AreSteps, section_kinds}

-- the ID is that of a package to which links lead in the direction from those named, or of one of
-- these
abbrev pub IsReached : DependencyDirection → GraphData → List (List ℕ) → List ℕ → Type 0
IsReached direction g ids id =
    (p : ℕ) × HasId g.packages id p × ReachedFrom (LinkStep direction g.links) (IsNamed g ids) p

-- the packages that those with these IDs reach
pub record AreReached (direction : DependencyDirection) (g : GraphData) (ids : List (List ℕ))
    (answer : Answer) : Type 0 where
  pub reached : List (List ℕ)
  pub exact : (id : List ℕ) → Contains reached id ↔ IsReached direction g ids id
  pub told : answer ≡ package_set reached

-- the packages that those meant reach
pub record IsReachAnswer (direction : DependencyDirection) (g : GraphData)
    (meant : List ℕ → List (List ℕ)) (words : List (List ℕ)) (answer : Answer) : Type 0 where
  pub ids : List (List ℕ)
  pub named : AllZip (Means meant) words ids
  pub known : All (IsKnown g.packages) ids
  pub exact : AreReached direction g ids answer

-- whether the package with the first ID depends on that with the second
pub record TellsDependence (g : GraphData) (from to : List ℕ) (answer : Answer) : Type 0 where
  pub holds : Bool
  pub exact : IsTrue holds ↔ DependsOn g from to
  pub told : answer ≡ truth holds

-- whether the first package meant depends on the second
pub record IsDependsAnswer (g : GraphData) (meant : List ℕ → List (List ℕ)) (from to : List ℕ)
    (answer : Answer) : Type 0 where
  pub from_id : List ℕ
  pub to_id : List ℕ
  pub from_named : Means meant from from_id
  pub to_named : Means meant to to_id
  pub from_known : IsKnown g.packages from_id
  pub to_known : IsKnown g.packages to_id
  pub exact : TellsDependence g from_id to_id answer

-- a shortest walk of links from the first package meant to the second
pub record IsWhyAnswer (g : GraphData) (meant : List ℕ → List (List ℕ)) (from to : List ℕ)
    (answer : Answer) : Type 0 where
  pub from_id : List ℕ
  pub to_id : List ℕ
  pub from_named : Means meant from from_id
  pub to_named : Means meant to to_id
  pub steps : List (List ℕ × Kinds)
  pub exact : AreSteps g from_id to_id steps
  pub told : answer ≡ package_steps steps

-- the packages in an order of them
pub record IsOrderAnswer (g : GraphData) (answer : Answer) : Type 0 where
  pub ordered : IsInOrder g
  pub told : answer ≡ package_list (ids_at g.packages (concat g.components))

-- the set of all packages
abbrev pub all_packages : GraphData → SetData
all_packages g = record { graph = g; included = replicate (length g.packages) true }

-- the roots of all packages, by position
pub record IsRootsAnswer (direction : DependencyDirection) (g : GraphData)
    (answer : Answer) : Type 0 where
  pub root_ids : List (List ℕ)
  pub exact : AreRootIds direction (all_packages g) root_ids
  pub told : answer ≡ package_list root_ids

-- the link goes from the package with the first ID to that with the second, and has sections of these kinds
abbrev pub IsLinkTold : LinkData → List ℕ × List ℕ × Kinds → Type 0
IsLinkTold link told = IsSomeAnd (slice_get link.graph.links link.number)
    (λ l. HasId link.graph.packages told.0 l.from × HasId link.graph.packages told.1 l.to
    × (told.2 ≡ section_kinds l.edge))

-- the links that are walked from the roots of all packages, in an order that the walk allows
pub record IsLinksAnswer (direction : DependencyDirection) (g : GraphData)
    (answer : Answer) : Type 0 where
  pub walked : List LinkData
  pub exact : AreWalkedLinks direction (all_packages g) walked
  pub links : List (List ℕ × List ℕ × Kinds)
  pub are_told : AllZip IsLinkTold walked links
  pub told : answer ≡ package_links links

-- the cycles in an order of the packages: two IDs stand on one cycle exactly where their packages
-- are cyclic
pub record IsCyclesAnswer (g : GraphData) (answer : Answer) : Type 0 where
  pub ordered : IsInOrder g
  pub common : (a b : List ℕ) → AreOnOne (cycles_of g) a b ↔ AreCyclic g a b
  pub told : answer ≡ package_rows (cycles_of g)

-- the packages whose name another one has, too, each with those that need it
pub record IsDuplicatesAnswer (g : GraphData) (answer : Answer) : Type 0 where
  pub rows : List (List (List ℕ))
  pub exact : AreDuplicates g rows
  pub told : answer ≡ package_needs rows

-- the graph is a verified graph, and no cycle is over links that aren't dev-only
pub record IsVerifyAnswer (g : GraphData) (answer : Answer) : Type 0 where
  pub verified : IsVerified g
  pub acyclic : HasNoFirmCycle g
  pub told : answer ≡ all_well

-- the members in a publish order, or of these those alone that can be published, where none of them needs one that can't
pub record IsPublishAnswer (g : GraphData) (publishable : Bool) (answer : Answer) : Type 0 where
  pub verified : IsVerified g
  pub acyclic : HasNoFirmCycle g
  pub ids : List (List ℕ)
  pub exact : ArePublishIds g ids
  pub told : answer ≡ package_list
      (if publishable then filter (is_publishable g.packages) ids else ids)
  pub free : publishable ≡ true → All (IsFree g) (filter (is_publishable g.packages) ids)

-- the members that changes at the paths affect, where these folders are given to packages
pub record TellsAffected (g : GraphData) (ignored : List (List ℕ)) (given : List Given) (paths : List (List ℕ))
    (answer : Answer) : Type 0 where
  pub ids : List (List ℕ)
  pub exact : AreAffectedIds g paths ignored given ids
  pub told : answer ≡ package_list ids

-- the same folders, each given to the package that its word means
abbrev pub AreGiven : (List ℕ → List (List ℕ)) → List (List ℕ × List ℕ) → List Given → Type 0
AreGiven meant also given = AllZip (λ both one. (one.0 ≡ both.0) × Means meant both.1 one.1) also given

-- the members that changes at the paths affect, with folders that belong to the packages meant
pub record IsAffectedAnswer (g : GraphData) (meant : List ℕ → List (List ℕ)) (ignored : List (List ℕ))
    (also : List (List ℕ × List ℕ)) (paths : List (List ℕ)) (answer : Answer) : Type 0 where
  pub given : List Given
  pub named : AreGiven meant also given
  pub exact : TellsAffected g ignored given paths answer

-- the packages meant and those that they reach, or all where none is given, as they are drawn
pub record IsDotAnswer (g : GraphData) (meant : List ℕ → List (List ℕ)) (words : List (List ℕ))
    (answer : Answer) : Type 0 where
  pub ids : List (List ℕ)
  pub named : AllZip (Means meant) words ids
  pub known : All (IsKnown g.packages) ids
  pub drawn : Drawing
  pub exact : IsDrawing g (IsDrawn g ids) drawn
  pub told : answer ≡ drawing drawn

-- what Cargo builds by the request
pub record IsBuiltAnswer (places : Places) (g : GraphData) (meant : List ℕ → List (List ℕ)) (request : BuildRequest)
    (answer : Answer) : Type 0 where
  pub choice : Choice
  pub chosen : IsChosen places g meant request choice
  pub rows : List Row
  pub exact : AreBuilt g choice rows
  pub told : answer ≡ built_rows rows

-- the features of the package that the word means that are on there
pub record IsFeaturesAnswer (places : Places) (g : GraphData) (meant : List ℕ → List (List ℕ))
    (request : BuildRequest) (word : List ℕ) (answer : Answer) : Type 0 where
  pub choice : Choice
  pub chosen : IsChosen places g meant request choice
  pub id : List ℕ
  pub is_meant : Means meant word id
  pub rows : List FeatureData
  pub exact : AreFeatures g choice id rows
  pub told : answer ≡ feature_rows rows

-- why the feature of the package that the word means is on there
pub record IsWhyFeatureAnswer (places : Places) (g : GraphData) (meant : List ℕ → List (List ℕ))
    (request : BuildRequest) (word name : List ℕ) (answer : Answer) : Type 0 where
  pub choice : Choice
  pub chosen : IsChosen places g meant request choice
  pub id : List ℕ
  pub is_meant : Means meant word id
  pub steps : List StepData
  pub exact : IsWhy g choice id name steps
  pub told : answer ≡ reasons steps

-- this is an answer to the command, whose words mean what `meant` tells
abbrev pub IsAnswer : (List ℕ → List (List ℕ)) → Command → GraphData → Answer → Type 0
IsAnswer meant (reach direction words) g answer = IsReachAnswer direction g meant words answer
IsAnswer meant (depends from to) g answer = IsDependsAnswer g meant from to answer
IsAnswer meant (why from to) g answer = IsWhyAnswer g meant from to answer
IsAnswer meant order g answer = IsOrderAnswer g answer
IsAnswer meant (roots direction) g answer = IsRootsAnswer direction g answer
IsAnswer meant (links direction) g answer = IsLinksAnswer direction g answer
IsAnswer meant cycles g answer = IsCyclesAnswer g answer
IsAnswer meant duplicates g answer = IsDuplicatesAnswer g answer
IsAnswer meant verify g answer = IsVerifyAnswer g answer
IsAnswer meant (publish_order publishable) g answer = IsPublishAnswer g publishable answer
IsAnswer meant (dot words) g answer = IsDotAnswer g meant words answer
IsAnswer meant (affected ignored also paths) g answer = IsAffectedAnswer g meant ignored also paths answer
IsAnswer meant _ g answer = ⊥

-- and to one of what Cargo builds on these platforms
abbrev pub IsAnswerOn : Places → (List ℕ → List (List ℕ)) → Command → GraphData → Answer → Type 0
IsAnswerOn places meant (built request) g answer = IsBuiltAnswer places g meant request answer
IsAnswerOn places meant (features request word) g answer =
    IsFeaturesAnswer places g meant request word answer
IsAnswerOn places meant (why_feature request word name) g answer =
    IsWhyFeatureAnswer places g meant request word name answer
IsAnswerOn places meant command g answer = IsAnswer meant command g answer

-- the words by which a command names packages, in their order
abbrev pub words_of : Command → List (List ℕ)
words_of (reach direction words) = words
words_of (depends from to) = from ∷ to ∷ []
words_of (why from to) = from ∷ to ∷ []
words_of (dot words) = words
words_of (built request) = request.members
words_of (features request word) = request.members ++ word ∷ []
words_of (why_feature request word name) = request.members ++ word ∷ []
words_of (affected ignored also paths) = map (λ both. both.1) also
words_of _ = []

-- the word means one package
abbrev pub IsClear : (List ℕ → List (List ℕ)) → List ℕ → Type 0
IsClear meant word = (id : List ℕ) × Means meant word id

-- the first of the words that doesn't mean one package means none, of which the fault tells, or may mean
-- several, whose texts are told, or memory ran out
abbrev pub IsWordFault : {Fault : Type 0} → Format Fault → List PackageRecord → List (List ℕ) → Fault
    → Cause → Type 0
IsWordFault format packages words fault (library (UnknownPackageId word)) =
    IsFirstNot (IsClear (format.meant packages)) words word
    × (format.meant packages word ≡ []) × format.tells_unknown packages word fault
IsWordFault format packages words fault (ambiguous word choices) =
    IsFirstNot (IsClear (format.meant packages)) words word
    × (1 < length (format.meant packages word))
    × (choices ≡ alternatives (map (format.text packages) (format.meant packages word)))
IsWordFault format packages words fault (library OutOfMemory) = Unit {0}
IsWordFault format packages words fault _ = ⊥

-- the fault is one that `verify` may tell of the graph, and the command asks for it
abbrev pub IsVerifyFault : Command → GraphData → VerifyFault → Type 0
IsVerifyFault verify g fault = IsGraphFault g fault
IsVerifyFault (publish_order publishable) g fault = IsGraphFault g fault
IsVerifyFault _ g fault = ⊥

-- of a cycle the fault tells what its packages are called
abbrev pub TellsCycle : {Fault : Type 0} → Format Fault → (List ℕ → List ℕ) → Fault → VerifyFault → Type 0
TellsCycle format call fault (Cycle ids) = format.tells_cycle ids (round_text (map call ids.items)) fault
TellsCycle format call fault _ = Unit {0}

-- the fault tells this one of `verify`, of a cycle with what its packages are called, or memory ran out
abbrev pub IsToldAs : {Fault : Type 0} → Format Fault → (List ℕ → List ℕ) → VerifyFault → Fault → Cause → Type 0
IsToldAs format call found fault cause =
    ((cause ≡ library (PackageGraphInternalError found)) × TellsCycle format call fault found)
    ⊎ (cause ≡ library OutOfMemory)

-- the fault is one that `verify` may tell of the graph, of a cycle with what its packages are called, or memory ran out
abbrev pub IsVerifyTold : {Fault : Type 0} → Format Fault → (List ℕ → List ℕ) → GraphData → Fault → Cause → Type 0
IsVerifyTold format call g fault (library (PackageGraphInternalError found)) =
    IsGraphFault g found × TellsCycle format call fault found
IsVerifyTold format call g fault (library OutOfMemory) = Unit {0}
IsVerifyTold format call g fault _ = ⊥

-- of the members that can be published, in a publish order, the first that needs one that can't is told, and that one
pub record IsUnpublishable (g : GraphData) (call : List ℕ → List ℕ) (member needed : List ℕ) : Type 0 where
  pub ids : List (List ℕ)
  pub exact : ArePublishIds g ids
  pub told : IsHindranceTold g call (filter (is_publishable g.packages) ids) member needed

-- the command asks for the members that can be published, and these two are told
abbrev pub IsPublishFault : (List ℕ → List ℕ) → Command → GraphData → List ℕ → List ℕ → Type 0
IsPublishFault call (publish_order publishable) g member needed =
    (publishable ≡ true) × IsUnpublishable g call member needed
IsPublishFault call _ g member needed = ⊥

-- no walk of links leads from the first package meant to the second
pub record IsWithoutWalk (g : GraphData) (meant : List ℕ → List (List ℕ)) (from to : List ℕ) : Type 0 where
  pub from_id : List ℕ
  pub to_id : List ℕ
  pub from_named : Means meant from from_id
  pub to_named : Means meant to to_id
  pub apart : Between g from_id to_id (NoWalk g.links)

-- the command asks for a walk between the packages of these words, and there is none
abbrev pub IsWalkFault : (List ℕ → List (List ℕ)) → Command → GraphData → List ℕ → List ℕ → Type 0
IsWalkFault meant (why from to) g start end =
    (start ≡ from) × (end ≡ to) × IsWithoutWalk g meant from to
IsWalkFault meant _ g start end = ⊥

-- the command is refused so, of this graph, whose packages `call` calls by their names, or memory ran out
abbrev pub IsCommandFault : {Fault : Type 0} → Format Fault → (List ℕ → List ℕ) → Command → GraphData → Fault
    → Cause → Type 0
IsCommandFault format call command g fault (library (PackageGraphInternalError found)) =
    IsVerifyFault command g found × TellsCycle format call fault found
IsCommandFault format call command g fault (no_walk from to) =
    IsWalkFault (format.meant g.packages) command g from to
IsCommandFault format call command g fault (unpublishable member needed) =
    IsPublishFault call command g member needed
IsCommandFault format call command g fault cause =
    IsWordFault format g.packages (words_of command) fault cause

-- and of what Cargo builds on these platforms
abbrev pub IsFaultOn : {Fault : Type 0} → Format Fault → Places → (List ℕ → List ℕ) → Command → GraphData → Fault
    → Cause → Type 0
IsFaultOn format places call command g fault (build cause) = IsBuildFault places call (format.meant g.packages) command g cause
IsFaultOn format places call command g fault cause = IsCommandFault format call command g fault cause

-- a member of the workspace has the ID
abbrev pub is_member : List PackageRecord → List ℕ → Bool
is_member packages id = list_any (λ r. bytes_eq id r.id && is_some (member_path r)) packages

-- the set is that of the members
abbrev pub AreMembers : SetData → Type 0
AreMembers s = IsSetWhere s.graph.packages (IsMember s.graph.packages) s.included

-- the row is of a package that passes the test, and those that need it
abbrev pub is_of : (List ℕ → Bool) → List (List ℕ) → Bool
is_of test [] = false
is_of test (id ∷ ids) = test id

-- of a set, a list or a walk the members, of rows and of links, drawn ones too, those of members alone, and of members
-- all that need them
abbrev pub of_members : List PackageRecord → Answer → Answer
of_members packages (package_set ids) = package_set (filter (is_member packages) ids)
of_members packages (package_list ids) = package_list (filter (is_member packages) ids)
of_members packages (package_links pairs) =
    package_links (filter (λ link. is_member packages link.0 && is_member packages link.1) pairs)
of_members packages (package_rows rows) =
    package_rows (filter (list_all (is_member packages)) rows)
of_members packages (package_needs rows) =
    package_needs (filter (is_of (is_member packages)) rows)
of_members packages (package_steps steps) =
    package_steps (filter (λ step. is_member packages step.0) steps)
of_members packages (built_rows rows) = built_rows (filter (λ row. is_member packages row.id) rows)
of_members packages (reasons steps) = reasons (filter (λ step. is_member packages step.fact.id) steps)
of_members packages (drawing drawn) = drawing (among (is_member packages) drawn)
of_members packages answer = answer

-- what the options have shown of an answer
abbrev pub shown : Options → List PackageRecord → Answer → Answer
shown options packages answer = if options.members_alone then of_members packages answer else answer
