-- Copies of the items of a list and of the members of an object, one after another.
use Rattle.std.proofs.Common.{◌≡◌, ◌++◌, ℕ, List, [], ◌∷◌, Option, Some, None, option_map, refl, sym, ap}
use Rattle.std.specs.Borrow.{Bor}
use Rattle.std.specs.declared.alloc.Global.{Global}
use Rattle.json.specs.Value.{value_view, items_view, members_view}
use Rattle.json.specs.declared.value.Value.{Value as JsonValue}
use Rattle.serde_json.specs.Data.{Data, Items, no_items, item, Members, put}
use Rattle.serde_json.specs.Read.{of_json, of_items, of_members}
use Rattle.serde_json.specs.View.{view, items_view as owned_items}
use Rattle.serde_json.specs.declared.value.Value.{Value}

-- these values, and the items behind them
abbrev pub items_behind : List Value → Items → Items
items_behind [] rest = rest
items_behind (value ∷ values) rest = item (view value) (items_behind values rest)

pub items_behind-none : (values : List Value) → items_behind values no_items ≡ owned_items values
items_behind-none [] = refl
items_behind-none (value ∷ values) = ap (item (view value)) (items_behind-none values)

items_behind-push : (values : List Value) (value : Value) (rest : Items)
    → items_behind (values ++ value ∷ []) rest ≡ items_behind values (item (view value) rest)
items_behind-push [] value rest = refl
items_behind-push (first ∷ values) value rest = ap (item (view first)) (items_behind-push values value rest)

items_behind-next : (values : List Value) (value : Value) (rest : Option Items)
    → option_map (items_behind values) (option_map (item (view value)) rest)
    ≡ option_map (items_behind (values ++ value ∷ [])) rest
items_behind-next values value None = refl
items_behind-next values value (Some rest) = ap Some (sym (items_behind-push values value rest))

-- the copy of the first item left goes behind the others
pub item_copied : (copies : List Value) (copy : Value) (first : JsonValue Global) (left rest : List (JsonValue Global))
    → left ≡ first ∷ rest → of_json (value_view first) ≡ Some (view copy)
    → option_map (items_behind copies) (of_items (items_view left))
    ≡ option_map (items_behind (copies ++ copy ∷ [])) (of_items (items_view rest))
item_copied copies copy first left rest is copied = rw (is, copied) (items_behind-next copies copy (of_items (items_view rest)))

-- the copy of the first member left is put among the others
pub member_copied : (copies : Members) (copy : Data) (first : Bor (List ℕ) × JsonValue Global)
    (left rest : List (Bor (List ℕ) × JsonValue Global)) → left ≡ first ∷ rest → of_json (value_view first.1) ≡ Some copy
    → of_members (members_view left) copies ≡ of_members (members_view rest) (put first.0.now copy copies)
member_copied copies copy first left rest is copied = rw (is, copied)
