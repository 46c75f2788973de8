-- Marks that are equal are shown the same, and the other way round.
use Rattle.std.proofs.Common.{◌≡◌, refl, ap, Bool, true, false, ◌&&◌}
use Rattle.std.specs.Str.{bytes_eq}
use Rattle.std.proofs.lemmas.Slice.Eq.{bytes_eq-Decides}
use Rattle.guppy_changes.specs.Marks.{NeedData, needs, asks_for_defaults, built_for}
use Rattle.guppy_changes.specs.Shown.{kind_of, need_shown, mark_shown, shown, Marked}
use Rattle.guppy_changes.specs.contracts.mark.SectionPartialEq.TheImpl.{eq-value as section_eq}
use Rattle.guppy_changes.specs.contracts.mark.NeedPartialEq.TheImpl.{eq-value as need_eq}
use Rattle.guppy_changes.specs.contracts.mark.MarkPartialEq.TheImpl.{eq-value as mark_eq}
use Rattle.guppy_changes.specs.contracts.mark.MarkOfPartialEq.TheImpl.{eq-value as mark_of_eq}
use Rattle.guppy_changes.specs.declared.mark.Section.{Section}
use Rattle.guppy_changes.specs.declared.mark.Section.TheVariants.{Normal, Build, Development}
use Rattle.guppy_changes.specs.declared.mark.Need.{Need}
use Rattle.guppy_changes.specs.declared.mark.Mark.{Mark as StoredMark}
use Rattle.guppy_changes.specs.declared.mark.Mark.TheVariants.{Needs, AsksForDefaults, AsksFor, BuiltFor, BuiltWith}
use Rattle.guppy_changes.specs.declared.mark.MarkOf.{MarkOf}

both_true : (a b : Bool) → (a && b) ≡ true → (a ≡ true) × (b ≡ true)
both_true true b h = (refl, h)
both_true false b h = absurd (cc)

all_true : (a b : Bool) → a ≡ true → b ≡ true → (a && b) ≡ true
all_true a b e f = rw (e, f) refl

equal_sections : (a b : Section) → section_eq.it a b ≡ true → a ≡ b
equal_sections Normal Normal h = refl
equal_sections Build Build h = refl
equal_sections Development Development h = refl
equal_sections a b h = absurd (cc)

same_kinds : (a b : Section) → kind_of a ≡ kind_of b → section_eq.it a b ≡ true
same_kinds Normal Normal h = refl
same_kinds Build Build h = refl
same_kinds Development Development h = refl
same_kinds a b h = absurd (cc)

equal_needs : (a b : Need) → need_eq.it a b ≡ true → need_shown a ≡ need_shown b
equal_needs a b h =
    let first = both_true (section_eq.it a.section b.section) (bytes_eq a.to.now b.to.now && bytes_eq a.name.now b.name.now) h in
    let rest = both_true (bytes_eq a.to.now b.to.now) (bytes_eq a.name.now b.name.now) first.1 in
    let kinds : kind_of a.section ≡ kind_of b.section = ap kind_of (equal_sections a.section b.section first.0) in
    let ids : a.to.now ≡ b.to.now = (bytes_eq-Decides a.to.now b.to.now).0 rest.0 in
    let names : a.name.now ≡ b.name.now = (bytes_eq-Decides a.name.now b.name.now).0 rest.1 in
    rw (kinds, ids, names) refl

same_needs : (a b : Need) → need_shown a ≡ need_shown b → need_eq.it a b ≡ true
same_needs a b e =
    all_true (section_eq.it a.section b.section) (bytes_eq a.to.now b.to.now && bytes_eq a.name.now b.name.now)
    (same_kinds a.section b.section (ap (λ (n : NeedData). n.kind) e))
    (all_true (bytes_eq a.to.now b.to.now) (bytes_eq a.name.now b.name.now)
    ((bytes_eq-Decides a.to.now b.to.now).1 (ap (λ (n : NeedData). n.to) e))
    ((bytes_eq-Decides a.name.now b.name.now).1 (ap (λ (n : NeedData). n.name) e)))

pub equal_marks : (a b : StoredMark) → mark_eq.it a b ≡ true → mark_shown a ≡ mark_shown b
equal_marks (Needs n) (Needs k) h = ap needs (equal_needs n k h)
equal_marks (AsksForDefaults n) (AsksForDefaults k) h = ap asks_for_defaults (equal_needs n k h)
equal_marks (AsksFor n x) (AsksFor k y) h =
    let both = both_true (need_eq.it n k) (bytes_eq x.now y.now) h in
    let first : need_shown n ≡ need_shown k = equal_needs n k both.0 in
    let second : x.now ≡ y.now = (bytes_eq-Decides x.now y.now).0 both.1 in
    rw (first, second) refl
equal_marks (BuiltFor x) (BuiltFor y) h = ap built_for ((bytes_eq-Decides x.now y.now).0 h)
equal_marks (BuiltWith x u) (BuiltWith y v) h =
    let both = both_true (bytes_eq x.now y.now) (bytes_eq u.now v.now) h in
    let first : x.now ≡ y.now = (bytes_eq-Decides x.now y.now).0 both.0 in
    let second : u.now ≡ v.now = (bytes_eq-Decides u.now v.now).0 both.1 in
    rw (first, second) refl
equal_marks a b h = absurd (cc)

pub same_marks : (a b : StoredMark) → mark_shown a ≡ mark_shown b → mark_eq.it a b ≡ true
same_marks (Needs n) (Needs k) e = let needed : need_shown n ≡ need_shown k = cc in same_needs n k needed
same_marks (AsksForDefaults n) (AsksForDefaults k) e = let needed : need_shown n ≡ need_shown k = cc in same_needs n k needed
same_marks (AsksFor n x) (AsksFor k y) e =
    let needed : need_shown n ≡ need_shown k = cc in
    let names : x.now ≡ y.now = cc in
    all_true (need_eq.it n k) (bytes_eq x.now y.now) (same_needs n k needed) ((bytes_eq-Decides x.now y.now).1 names)
same_marks (BuiltFor x) (BuiltFor y) e = let names : x.now ≡ y.now = cc in (bytes_eq-Decides x.now y.now).1 names
same_marks (BuiltWith x u) (BuiltWith y v) e =
    let first : x.now ≡ y.now = cc in
    let second : u.now ≡ v.now = cc in
    all_true (bytes_eq x.now y.now) (bytes_eq u.now v.now) ((bytes_eq-Decides x.now y.now).1 first) ((bytes_eq-Decides u.now v.now).1 second)
same_marks a b e = absurd (cc)

pub equal_shown : (a b : MarkOf) → mark_of_eq.it a b ≡ true → shown a ≡ shown b
equal_shown a b h =
    let both = both_true (bytes_eq a.id.now b.id.now) (mark_eq.it a.mark b.mark) h in
    let ids : a.id.now ≡ b.id.now = (bytes_eq-Decides a.id.now b.id.now).0 both.0 in
    let marks : mark_shown a.mark ≡ mark_shown b.mark = equal_marks a.mark b.mark both.1 in
    rw (ids, marks) refl

pub shown_equal : (a b : MarkOf) → shown a ≡ shown b → mark_of_eq.it a b ≡ true
shown_equal a b e =
    all_true (bytes_eq a.id.now b.id.now) (mark_eq.it a.mark b.mark)
    ((bytes_eq-Decides a.id.now b.id.now).1 (ap (λ (m : Marked). m.0) e))
    (same_marks a.mark b.mark (ap (λ (m : Marked). m.1) e))
