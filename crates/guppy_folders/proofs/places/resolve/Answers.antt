use Rattle.std.proofs.Common.{◌∙◌, sym, ap, List, [], map, reverse}
use Rattle.std.proofs.lemmas.List.{reverse-reverse}
use Rattle.guppy_data.specs.Path.{Part}
use Rattle.guppy_data.specs.Component.{part_shown}
use Rattle.guppy_data.specs.declared.texts.component.Component.{Component}
use Rattle.guppy_folders.specs.Places.{walked}
use Rattle.guppy_folders.proofs.Ways.{walked_on}
use Rattle.guppy_folders.proofs.places.resolve.Goals as goal

pub returns : goal.returns
returns c =
    let root = map part_shown c.args.root.now in
    let parts = map part_shown c.args.parts.now in
    let place = map part_shown c.walk-2.new.place.items in
    let none = ap (λ (l : List Component). walked (reverse (map part_shown l)) root) c.new-place.ensures.items in
    sym (reverse-reverse place) ∙ ap reverse (c.in_ok-walk-2.ensures ∙ ap (λ (way : List Part). walked way parts) (c.in_ok-walk.ensures ∙ none) ∙ sym (walked_on [] root parts))
