-- The way to a place, which is its list of components from the end on.
use Rattle.std.proofs.Common.{◌≡◌, ◌∙◌, refl, ap, List, [], ◌∷◌, ◌++◌, map, reverse}
use Rattle.std.proofs.lemmas.List.{map_push, reverse-append}
use Rattle.guppy_data.specs.Path.{Part}
use Rattle.guppy_data.specs.Component.{part_shown}
use Rattle.guppy_data.specs.declared.texts.component.Component.{Component}
use Rattle.guppy_folders.specs.Places.{stepped, walked}

-- what is pushed stands first
pub pushed : (items more : List Component) (part : Component) → more ≡ items ++ part ∷ [] → reverse (map part_shown more) ≡ part_shown part ∷ reverse (map part_shown items)
pushed items more part is = ap (λ (l : List Component). reverse (map part_shown l)) is ∙ ap reverse (map_push part_shown items part) ∙ reverse-append (map part_shown items) (part_shown part ∷ [])

-- one way and then another
pub walked_on : (way front behind : List Part) → walked way (front ++ behind) ≡ walked (walked way front) behind
walked_on way [] behind = refl
walked_on way (part ∷ front) behind = walked_on (stepped way part) front behind
