use Rattle.std.proofs.Common.{◌≡◌, ◌∙◌, sym, ap, subst, true, List, map}
use Rattle.guppy_data.specs.Component.{part_shown}
use Rattle.guppy_data.specs.Path.{Part}
use Rattle.guppy_data.specs.Utf8Path.{path_text}
use Rattle.guppy_folders.specs.Folders.{lists_in, IsInside}
use Rattle.guppy_folders.specs.Places.{place_above, MeetsOne}
use Rattle.guppy_affected.proofs.elsewhere.lies_elsewhere.Goals as goal

pub returns-then-is_inside : goal.returns-then-is_inside
returns-then-is_inside c =
    let own = map part_shown c.args.own.now in
    let folder = ap (map part_shown) c.as_slice.ensures.value ∙ c.in_ok-folder.ensures ∙ ap (place_above (path_text c.args.root)) c.path.ensures in
    (λ h. absurd (cc h), λ lies. absurd (lies.0 (subst (IsInside own) folder (c.is_inside.ensures.0 c.if-is_inside.true))))

pub returns : goal.returns
returns c =
    let own = map part_shown c.args.own.now in
    let first = ap (map part_shown) c.as_slice.ensures.value ∙ c.in_ok-folder.ensures ∙ ap (place_above (path_text c.args.root)) c.path.ensures in
    let again = ap (map part_shown) c.as_slice-2.ensures.value ∙ c.in_ok-folder.ensures ∙ ap (place_above (path_text c.args.root)) c.path.ensures in (
      λ h. (
        λ inside. let is : c.is_inside.result ≡ true = c.is_inside.ensures.1 (subst (IsInside own) (sym first) inside) in absurd (cc),
        subst (λ (f : List Part). MeetsOne f (lists_in c.args.places.now)) again (c.meets_one.ensures.0 h),
      ),
      λ lies. c.meets_one.ensures.1 (subst (λ (f : List Part). MeetsOne f (lists_in c.args.places.now)) (sym again) lies.1),
    )
