-- The marks that links and rows give are those of the state.
use Rattle.std.proofs.Common.{◌≡◌, inl, inr, refl, sym, ap, subst, ℕ, List, Contains, string_bytes}
use Rattle.std.specs.Prelude.{◌≢◌, ◌↔◌}
use Rattle.guppy_data.specs.Platform.{Never, recorded_status}
use Rattle.guppy_data.specs.declared.records.DepRequiredOrOptional.{DepRequiredOrOptional}
use Rattle.guppy_data.specs.declared.records.LinkRecord.{LinkRecord}
use Rattle.guppy_data.specs.declared.texts.dependency_kind.DependencyKind.{DependencyKind}
use Rattle.guppy_data.specs.declared.texts.dependency_kind.DependencyKind.TheVariants.{Normal, Development, Build}
use Rattle.guppy_graph.specs.Sections.{section_of}
use Rattle.guppy_built.specs.Rows.{Row}
use Rattle.guppy_changes.specs.Adding.{Either, OfSome}
use Rattle.guppy_changes.specs.Marks.{Mark, needs, asks_for_defaults, asks_for, need, InSection, IsNamed, HasMark, it_needs, it_asks_for_defaults, it_asks_for, it_is_built, it_is_built_with}
use Rattle.guppy_changes.specs.Shown.{Marked, PartMarks, SectionMarks, LinkMarks, RowMarks}

in_link : (l : LinkRecord) (kind : DependencyKind) (m : Marked) → SectionMarks l kind m → LinkMarks l m
in_link l Normal m s = inl s
in_link l Build m s = inr (inl s)
in_link l Development m s = inr (inr s)

module _ (links : List LinkRecord) (rows : List Row) where
  same_mark : (m : Marked) (id : List ℕ) (mark : Mark) → m ≡ (id, mark) → HasMark links rows id mark → HasMark links rows m.0 m.1
  same_mark m id mark e h = subst (λ (n : Marked). HasMark links rows n.0 n.1) (sym e) h

  of_part : (l : LinkRecord) (kind : DependencyKind) (part : DepRequiredOrOptional) → Contains links l → ((P : DepRequiredOrOptional → Type 0) → P part → InSection l kind P)
      → (m : Marked) → PartMarks l.from (need kind l) part m → HasMark links rows m.0 m.1
  of_part l kind part there inside m given = elim given as (λ _. HasMark links rows m.0 m.1) [
    | inl w ↦ same_mark m l.from (needs (need kind l)) w.1 (it_needs l kind there (inside (λ p. recorded_status p.build_if ≢ Never) w.0))
    | inr other ↦ elim other as (λ _. HasMark links rows m.0 m.1) [
      | inl w ↦ same_mark m l.from (asks_for_defaults (need kind l)) w.1 (it_asks_for_defaults l kind there (inside (λ p. recorded_status p.default_features_if ≢ Never) w.0))
      | inr w ↦ same_mark m l.from (asks_for (need kind l) (string_bytes w.0.0)) w.2.1 (it_asks_for l kind (string_bytes w.0.0) there (inside (IsNamed (string_bytes w.0.0)) (w.0, w.1, refl, w.2.0)))
    ]
  ]

  of_section : (l : LinkRecord) (kind : DependencyKind) → Contains links l → (m : Marked) → SectionMarks l kind m → HasMark links rows m.0 m.1
  of_section l kind there m given = elim given as (λ _. HasMark links rows m.0 m.1) [
    | inl p ↦ of_part l kind (section_of kind l).required there (λ P h. inl h) m p
    | inr p ↦ of_part l kind (section_of kind l).optional there (λ P h. inr h) m p
  ]

  of_link : (l : LinkRecord) → Contains links l → (m : Marked) → LinkMarks l m → HasMark links rows m.0 m.1
  of_link l there m given = elim given as (λ _. HasMark links rows m.0 m.1) [
    | inl s ↦ of_section l Normal there m s
    | inr other ↦ elim other as (λ _. HasMark links rows m.0 m.1) [
      | inl s ↦ of_section l Build there m s
      | inr s ↦ of_section l Development there m s
    ]
  ]

  of_row : (row : Row) → Contains rows row → (m : Marked) → RowMarks row m → HasMark links rows m.0 m.1
  of_row row there m given = elim given as (λ _. HasMark links rows m.0 m.1) [
    | inl e ↦ same_mark m row.id _ e (it_is_built row there)
    | inr f ↦ same_mark m row.id _ f.2 (it_is_built_with row f.0 there f.1)
  ]

  given : (id : List ℕ) (mark : Mark) → HasMark links rows id mark → Either (OfSome links LinkMarks) (OfSome rows RowMarks) (id, mark)
  given _ _ (it_needs l kind there h) = inl (
    l,
    there,
    in_link l kind _ (elim h as (λ _. SectionMarks l kind (l.from, needs (need kind l))) [
      | inl p ↦ inl (inl (p, refl))
      | inr p ↦ inr (inl (p, refl))
    ]),
  )
  given _ _ (it_asks_for_defaults l kind there h) = inl (
    l,
    there,
    in_link l kind _ (elim h as (λ _. SectionMarks l kind (l.from, asks_for_defaults (need kind l))) [
      | inl p ↦ inl (inr (inl (p, refl)))
      | inr p ↦ inr (inr (inl (p, refl)))
    ]),
  )
  given _ _ (it_asks_for l kind feature there h) = inl (
    l,
    there,
    in_link l kind _ (elim h as (λ _. SectionMarks l kind (l.from, asks_for (need kind l) feature)) [
      | inl (e, in_part, named, set) ↦ inl (inr (inr (e, in_part, (set, ap (λ (f : List ℕ). (l.from, asks_for (need kind l) f)) (sym named)))))
      | inr (e, in_part, named, set) ↦ inr (inr (inr (e, in_part, (set, ap (λ (f : List ℕ). (l.from, asks_for (need kind l) f)) (sym named)))))
    ]),
  )
  given _ _ (it_is_built row there) = inr (row, there, inl refl)
  given _ _ (it_is_built_with row feature there on) = inr (row, there, inr (feature, on, refl))

  -- both ways
  pub marks_given : (id : List ℕ) (mark : Mark) → Either (OfSome links LinkMarks) (OfSome rows RowMarks) (id, mark) ↔ HasMark links rows id mark
  marks_given id mark = (
    λ either. elim either as (λ _. HasMark links rows id mark) [
      | inl l ↦ of_link l.0 l.1 (id, mark) l.2
      | inr r ↦ of_row r.0 r.1 (id, mark) r.2
    ],
    given id mark,
  )
