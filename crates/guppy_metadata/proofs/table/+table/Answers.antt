use Rattle.std.proofs.Common.{◌≡◌, ◌+◌, ◌∷◌, [], Some, drop, string_bytes, ap, sym, ◌∙◌}
use Rattle.std.proofs.lemmas.List.{drop_more, drop_all}
use Rattle.serde_json.specs.Data.{put}
use Rattle.serde_json.specs.View.{view, members_view as owned_members}
use Rattle.serde_json.proofs.Views.{members_view-insert_entry}
use Rattle.guppy_metadata.proofs.Tables.{items_behind-none, item_copied, member_copied}
use Rattle.guppy_metadata.proofs.table.+table.Goals as goal

pub list_of-loop-item-preserved : goal.list_of-loop-item-preserved
list_of-loop-item-preserved t c =
    let items = c.deref-item-items.result.now in
    let i = c.loop-item.item-index in
    let first = c.item-item.result in
    let left : drop i items ≡ first ∷ drop (i + 1) items =
    drop_more items i first c.loop-item-test.true ∙ ap (λ x. x ∷ drop (i + 1) items) (sym c.item-item.is) in
    rw c.in_ok-push.ensures.items (c.loop-item.invariant
    ∙ item_copied c.loop-item.list.items c.in_ok-table_of.field-0 first _ _ left c.in_ok-table_of.ensures.table)

pub list_of-returns-clause-list : goal.list_of-returns-clause-list
list_of-returns-clause-list t c =
    let items = c.deref-item-items.result.now in
    let none : drop c.loop-item.item-index items ≡ [] = drop_all c.loop-item.item-index items c.loop-item-test.false in
    let all = rw none at c.loop-item.invariant in
    rw (← c.deref-item-items.ensures.value) (all ∙ ap Some (items_behind-none c.loop-item.list.items))

pub map_of-loop-member-preserved : goal.map_of-loop-member-preserved
map_of-loop-member-preserved t c =
    let members = c.deref-member-items.result.now in
    let i = c.loop-member.member-index in
    let first = c.member-item.result in
    let left : drop i members ≡ first ∷ drop (i + 1) members =
    drop_more members i first c.loop-member-test.true ∙ ap (λ x. x ∷ drop (i + 1) members) (sym c.member-item.is) in
    let copies = c.loop-member.map.entries in
    let value = c.in_ok-value.value in
    let named : string_bytes c.in_ok-name.name ≡ first.0.now = c.in_ok-name.ensures.ok in
    let added : owned_members c.insert.new.self.entries ≡ put first.0.now (view value) (owned_members copies) =
    ap owned_members c.in_ok-insert.ensures.entries
    ∙ members_view-insert_entry copies c.in_ok-name.name value
    ∙ ap (λ name. put name (view value) (owned_members copies)) named in
    rw added (c.loop-member.invariant
    ∙ member_copied (owned_members copies) (view value) first _ _ left c.in_ok-value.ensures.table)
