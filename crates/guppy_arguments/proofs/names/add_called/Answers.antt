use Rattle.std.proofs.Common.{arith, ◌≡◌, ◌∙◌, List, [], ◌∷◌, ◌++◌, ℕ, Vec, Some, true, cond, sym, ap, string_bytes}
use Rattle.std.specs.declared.alloc.Global.{Global}
use Rattle.std.specs.Cmp.Lexicographic.{nat_list_eq_equiv}
use Rattle.std.specs.Option.{option_map_or}
use Rattle.std.specs.Str.{bytes_eq}
use Rattle.std.proofs.lemmas.Map.Text.{hash_map_text_same, hash_map_updates_text}
use Rattle.std.proofs.lemmas.Slice.Eq.{bytes_eq-Decides}
use Rattle.indexmap.specs.Entry.{entry_value, map_with_value}
use Rattle.indexmap.specs.IndexMap.{get_by_text}
use Rattle.guppy_arguments.proofs.KeyLists.{items_or_none, one_put}
use Rattle.guppy_arguments.proofs.names.add_called.Goals as goal

pub returns : goal.returns
returns c other =
    let items : Vec (List ℕ) Global → List (List ℕ) = λ v. v.items in
    let old = c.args.ids_by_text.now in
    let word = string_bytes c.args.word in
    let entry = c.in_ok-ids_by_text.field-0 in
    let v = c.push.new.self in
    let new = map_with_value entry v in
    let was = get_by_text old other in
    let put = hash_map_updates_text word old new (Some v) (c.in_ok-ids_by_text.ensures.update.0 v) other in
    let found = λ (same : bytes_eq word other ≡ true). c.in_ok-ids_by_text.ensures.value ∙ (hash_map_text_same c.args.word other old.entries (sym ((bytes_eq-Decides word other).0 same))).0 in
    let held = λ (same : bytes_eq word other ≡ true). ap items c.or_insert-ids.ensures.value ∙ (items_or_none items (entry_value entry) c.new.result c.new.ensures.items ∙ ap (λ o. option_map_or items o []) (found same)) in
    let more = λ (same : bytes_eq word other ≡ true). c.in_ok-push.ensures.items ∙ ap (λ ids. ids ++ c.args.id ∷ []) (held same) in
    let all : option_map_or items (get_by_text new other) [] ≡ option_map_or items was [] ++ cond (bytes_eq other word) (c.args.id ∷ []) [] =
    one_put items (bytes_eq word other) was (get_by_text new other) v c.args.id put more
    ∙ ap (λ same. option_map_or items was [] ++ cond same (c.args.id ∷ []) []) (nat_list_eq_equiv.symm word other) in
    grind (arith, all)
