-- Lists behind the keys of a map, one of which gets one more item.
use Rattle.std.proofs.Common.{◌≡◌, ◌∙◌, Bool, true, false, cond, List, [], ◌∷◌, ◌++◌, Option, None, Some, refl, sym, ap}
use Rattle.std.specs.Prelude.{unwrap_or}
use Rattle.std.specs.Option.{option_map_or}
use Rattle.std.proofs.lemmas.List.{append-nil}

-- the items of what is there, or of what has none
pub items_or_none : {V X : Type 0} (items : V → List X) (found : Option V) (none : V) → items none ≡ [] → items (unwrap_or found none) ≡ option_map_or items found []
items_or_none items None none empty = empty
items_or_none items (Some v) none empty = refl

-- `was` is what stood behind a key, and `now` what stands there; `same` says whether it is the key of v
pub one_put : {V X : Type 0} (items : V → List X) (same : Bool) (was now : Option V) (v : V) (item : X)
    → now ≡ cond same (Some v) was → (same ≡ true → items v ≡ option_map_or items was [] ++ item ∷ [])
    → option_map_or items now [] ≡ option_map_or items was [] ++ cond same (item ∷ []) []
one_put items true was now v item put more = ap (λ o. option_map_or items o []) put ∙ more refl
one_put items false was now v item put more = ap (λ o. option_map_or items o []) put ∙ sym (append-nil (option_map_or items was []))
