-- The marks that are stored, and which ones links and rows give.
use Rattle.std.specs.Prelude.{◌≡◌, ◌≢◌, ◌↔◌, ℕ, List, map, Contains}
use Rattle.std.specs.String.{string_bytes}
use Rattle.guppy_data.specs.Platform.{Status, Never, recorded_status}
use Rattle.guppy_data.specs.declared.records.DepRequiredOrOptional.{DepRequiredOrOptional}
use Rattle.guppy_data.specs.declared.records.LinkRecord.{LinkRecord}
use Rattle.guppy_data.specs.declared.texts.dependency_kind.DependencyKind.{DependencyKind}
use Rattle.guppy_data.specs.declared.texts.dependency_kind.DependencyKind.TheVariants.{Normal, Development, Build}
use Rattle.guppy_graph.specs.Graph.{GraphData}
use Rattle.guppy_graph.specs.Sections.{section_of}
use Rattle.guppy_built.specs.Rows.{Row}
use Rattle.guppy_changes.specs.declared.mark.Section.{Section}
use Rattle.guppy_changes.specs.declared.mark.Section.TheVariants.{Normal as InNormal, Build as InBuild, Development as InDevelopment}
use Rattle.guppy_changes.specs.declared.mark.Need.{Need}
use Rattle.guppy_changes.specs.declared.mark.Mark.{Mark as StoredMark}
use Rattle.guppy_changes.specs.declared.mark.Mark.TheVariants.{Needs, AsksForDefaults, AsksFor, BuiltFor, BuiltWith}
use Rattle.guppy_changes.specs.declared.mark.MarkOf.{MarkOf}
use Rattle.guppy_changes.specs.Marks.{NeedData, Mark, needs, asks_for_defaults, asks_for, built_for, built_with, need}
use Rattle.guppy_changes.specs.Changes.{Setting, State, state, AreAllBuilt, IsMarked}
use Rattle.guppy_changes.specs.Adding.{Where, Either, OfSome}

abbrev pub kind_of : Section → DependencyKind
kind_of InNormal = Normal
kind_of InBuild = Build
kind_of InDevelopment = Development

abbrev pub need_shown : Need → NeedData
need_shown n = record { kind = kind_of n.section; to = n.to.now; name = n.name.now }

abbrev pub mark_shown : StoredMark → Mark
mark_shown (Needs n) = needs (need_shown n)
mark_shown (AsksForDefaults n) = asks_for_defaults (need_shown n)
mark_shown (AsksFor n feature) = asks_for (need_shown n) feature.now
mark_shown (BuiltFor platform) = built_for platform.now
mark_shown (BuiltWith platform feature) = built_with platform.now feature.now

-- a mark of the package with the ID
abbrev pub Marked : Type 0
Marked = List ℕ × Mark

abbrev pub shown : MarkOf → Marked
shown m = (m.id.now, mark_shown m.mark)

abbrev pub all_shown : List MarkOf → List Marked
all_shown marks = map shown marks

-- the mark, where the status isn't never
abbrev pub IfSomewhere : Status → Marked → Marked → Type 0
IfSomewhere status = Where (status ≢ Never)

-- the features that the part asks for by their names
abbrev pub NamedMarks : List ℕ → NeedData → DepRequiredOrOptional → Marked → Type 0
NamedMarks id n part = OfSome part.feature_targets.entries
    (λ e. IfSomewhere (recorded_status e.1) (id, asks_for n (string_bytes e.0)))

-- what the part of a section gives
abbrev pub PartMarks : List ℕ → NeedData → DepRequiredOrOptional → Marked → Type 0
PartMarks id n part = Either (IfSomewhere (recorded_status part.build_if) (id, needs n))
    (Either (IfSomewhere (recorded_status part.default_features_if) (id, asks_for_defaults n)) (NamedMarks id n part))

-- what the section of a link gives
abbrev pub SectionMarks : LinkRecord → DependencyKind → Marked → Type 0
SectionMarks l kind = Either (PartMarks l.from (need kind l) (section_of kind l).required)
    (PartMarks l.from (need kind l) (section_of kind l).optional)

-- what the link gives
abbrev pub LinkMarks : LinkRecord → Marked → Type 0
LinkMarks l = Either (SectionMarks l Normal) (Either (SectionMarks l Build) (SectionMarks l Development))

-- what the row gives
abbrev pub FeatureMarks : Row → Marked → Type 0
FeatureMarks row = OfSome row.features (λ feature m. m ≡ (row.id, built_with row.platform feature))

abbrev pub RowMarks : Row → Marked → Type 0
RowMarks row = Either (λ m. m ≡ (row.id, built_for row.platform)) (FeatureMarks row)

-- exactly the marks of the state
abbrev pub AreMarks : State → List Marked → Type 0
AreMarks s marks = (id : List ℕ) (mark : Mark) → Contains marks (id, mark) ↔ IsMarked s id mark

-- and of the state of the graph, with what is built of it
abbrev pub AreStateMarks : GraphData → Setting → List Marked → Type 0
AreStateMarks g s marks = (rows : List Row) × AreAllBuilt g s rows × AreMarks (state g rows) marks
