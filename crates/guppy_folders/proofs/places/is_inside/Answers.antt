use Rattle.std.proofs.Common.{◌≡◌, ◌∙◌, sym, ap, subst, true, ◌≤◌, List, ◌++◌, length, map, take, drop}
use Rattle.std.specs.Prelude.{◌↔◌, All}
use Rattle.std.proofs.lemmas.List.{take-append-drop, length-take-le, length-map, map-append}
use Rattle.guppy_data.specs.Path.{Part}
use Rattle.guppy_data.specs.Component.{part_shown}
use Rattle.guppy_data.specs.declared.texts.component.Component.{Component}
use Rattle.guppy_folders.specs.Folders.{IsName, IsInside}
use Rattle.guppy_folders.proofs.Prefixes.{inside_split}
use Rattle.guppy_folders.proofs.Sets.{parts_same, parts_equal}
use Rattle.guppy_folders.proofs.places.is_inside.Goals as goal

-- a place that is cut where the folder would end
cut : (folder place front rest : List Component) → front ≡ take (length folder) place → rest ≡ drop (length folder) place → length folder ≤ length place
    → IsInside (map part_shown folder) (map part_shown place) ↔ ((map part_shown front ≡ map part_shown folder) × All IsName (map part_shown rest))
cut folder place front rest front_is rest_is within =
    let n = length folder in
    let whole : map part_shown (take n place) ++ map part_shown (drop n place) ≡ map part_shown place =
    sym (map-append part_shown (take n place) (drop n place)) ∙ ap (map part_shown) (take-append-drop n place) in
    let long : length (map part_shown (take n place)) ≡ length (map part_shown folder) =
    length-map (take n place) part_shown ∙ length-take-le n place within ∙ sym (length-map folder part_shown) in
    rw (front_is, rest_is) (subst (λ (path : List Part). IsInside (map part_shown folder) path ↔ ((map part_shown (take n place) ≡ map part_shown folder) × All IsName (map part_shown (drop n place)))) whole
    (inside_split (map part_shown folder) (map part_shown (take n place)) (map part_shown (drop n place)) long))

pub returns-then-eq : goal.returns-then-eq
returns-then-eq c =
    let both = cut c.args.folder.now c.args.place.now c.split_at.result.0.now c.split_at.result.1.now c.split_at.ensures.front c.split_at.ensures.back c.if-place-folder.false in
    let same = parts_same c.split_at.result.0.now c.args.folder.now (sym c.eq.ensures ∙ c.if-eq.true) in
    (λ h. both.1 (same, c.all_names.ensures.0 h), λ inside. c.all_names.ensures.1 (both.0 inside).1)

pub returns-else-eq : goal.returns-else-eq
returns-else-eq c =
    let both = cut c.args.folder.now c.args.place.now c.split_at.result.0.now c.split_at.result.1.now c.split_at.ensures.front c.split_at.ensures.back c.if-place-folder.false in (
      λ h. absurd (cc h),
      λ inside. let is : c.eq.result ≡ true = c.eq.ensures ∙ parts_equal c.split_at.result.0.now c.args.folder.now (both.0 inside).0 in absurd (cc),
    )
