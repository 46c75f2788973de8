use Rattle.std.proofs.Common.{rules, ◌≡◌, ◌≢◌, ◌∙◌, sym, ap, ◌<◌, ◌≤◌, length, get_or, true, false}
use Rattle.std.specs.List.{Contains}
use Rattle.std.specs.declared.cmp.Ordering.TheVariants.{Equal}
use Rattle.std.specs.Ordering.{is_lt, is_eq}
use Rattle.std.proofs.lemmas.List.{get_or_default}
use Rattle.std.proofs.lemmas.List.Sorted.{IsPartitionPoint-from_clause}
use Rattle.guppy_graph.specs.Keys.{or_empty}
use Rattle.guppy_graph.proofs.Lookups.{partitioned}
use Rattle.guppy_graph.proofs.KeyIndexes.{from_is_eq, first_of, none_with, none_past}
use Rattle.guppy_graph.proofs.keyed.position_of.Goals as goal

pub returns-in-Some : goal.returns-in-Some
returns-in-Some g c =
    let o = g.S.Keyed.total in
    let order = g.S.Keyed.order in
    let key_at = g.S.Keyed.key_at c.args.source.now in
    let index = c.args.index.now in
    let key = c.args.text.now in
    let place = c.partition_point-place.result in
    let parts = IsPartitionPoint-from_clause (λ p. is_lt (order (or_empty (key_at p)) key)) index place c.partition_point-place.ensures.partitioned (partitioned o (λ p. or_empty (key_at p)) key index c.requires.ascends) (λ a r f' k. search rules) in
    let inside : place < length index = search rules in
    let is : c.in-Some.first.now ≡ get_or index place 0 = search rules in
    let tie : order (or_empty (key_at c.in-Some.first.now)) key ≡ Equal = sym c.compare_to.ensures ∙ from_is_eq c.compare_to.result (sym c.is_eq.ensures ∙ c.if-is_eq.true) in
    let there : Contains index c.in-Some.first.now = (place, inside, get_or_default index place c.in-Some.first.now 0 inside ∙ sym is) in
    first_of order o key_at (g.S.Keyed.count c.args.source.now) index c.requires key place parts c.in-Some.first.now inside is there tie

pub returns-in_default : goal.returns-in_default
returns-in_default g c =
    let o = g.S.Keyed.total in
    let order = g.S.Keyed.order in
    let key_at = g.S.Keyed.key_at c.args.source.now in
    let index = c.args.index.now in
    let key = c.args.text.now in
    let place = c.partition_point-place.result in
    let parts = IsPartitionPoint-from_clause (λ p. is_lt (order (or_empty (key_at p)) key)) index place c.partition_point-place.ensures.partitioned (partitioned o (λ p. or_empty (key_at p)) key index c.requires.ascends) (λ a r f' k. search rules) in
    let inside : place < length index = search rules in
    let is : c.in-Some.first.now ≡ get_or index place 0 = search rules in
    let differs : order (or_empty (key_at c.in-Some.first.now)) key ≢ Equal = λ tie.
    let e : true ≡ false = sym (c.is_eq.ensures ∙ ap is_eq (c.compare_to.ensures ∙ tie)) ∙ c.if-is_eq.false in absurd (cc) in
    none_with order o key_at (g.S.Keyed.count c.args.source.now) index c.requires key place parts c.in-Some.first.now inside is differs

pub returns-in_default-2 : goal.returns-in_default-2
returns-in_default-2 g c =
    let o = g.S.Keyed.total in
    let order = g.S.Keyed.order in
    let key_at = g.S.Keyed.key_at c.args.source.now in
    let index = c.args.index.now in
    let key = c.args.text.now in
    let place = c.partition_point-place.result in
    let parts = IsPartitionPoint-from_clause (λ p. is_lt (order (or_empty (key_at p)) key)) index place c.partition_point-place.ensures.partitioned (partitioned o (λ p. or_empty (key_at p)) key index c.requires.ascends) (λ a r f' k. search rules) in
    let past : length index ≤ place = search rules in
    none_past order o key_at (g.S.Keyed.count c.args.source.now) index c.requires key place parts past
