use Rattle.std.proofs.Common.{◌≡◌, drop, option_map}
use Rattle.json.specs.Value.{items_view, members_view}
use Rattle.serde_json.specs.Data.{no_members}
use Rattle.serde_json.specs.Read.{of_items, of_members}
use Rattle.serde_json.specs.View.{members_view as owned_members}
use Rattle.guppy_metadata.proofs.Tables.{items_behind}
use Rattle.guppy_metadata.proofs.table.+table.Given as goal

abbrev pub invariant-list_of-loop-item : goal.invariant-list_of-loop-item
invariant-list_of-loop-item l = of_items (items_view l.item-items)
    ≡ option_map (items_behind l.list.items) (of_items (items_view (drop l.item-index l.item-items)))

abbrev pub invariant-map_of-loop-member : goal.invariant-map_of-loop-member
invariant-map_of-loop-member l = of_members (members_view l.member-items) no_members
    ≡ of_members (members_view (drop l.member-index l.member-items)) (owned_members l.map.entries)
