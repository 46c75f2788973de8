use Rattle.std.proofs.Common.{rules, ◌≡◌, ◌∙◌, sym, ap, subst, refl, arith, ℕ, length, map, ◌+◌, ◌++◌, ◌∷◌, []}
use Rattle.std.specs.List.{range_with_len}
use Rattle.std.specs.List.Sorted.{IsPermutation}
use Rattle.std.proofs.lemmas.List.{map_push, map-id}
use Rattle.std.proofs.lemmas.List.FromFn.{map-range_with_len_more}
use Rattle.std.proofs.lemmas.List.Sorted.{IsPermutation-map}
use Rattle.std.proofs.lemmas.Result.{IfOk-weaker}
use Rattle.guppy_graph.proofs.likely.likely_order.Goals as goal

pub loop-position-init : goal.loop-position-init
loop-position-init c = rw c.in_ok-ranks.ensures.items refl

pub loop-position-preserved : goal.loop-position-preserved
loop-position-preserved c =
    let p = c.loop-position.position in
    let more : range_with_len 0 (p + 1) ≡ range_with_len 0 p ++ p ∷ [] =
    sym (map-id (range_with_len 0 (p + 1))) ∙ (map-range_with_len_more (λ q. q) 0 p p (omega arith) ∙ ap (λ l. l ++ p ∷ []) (map-id (range_with_len 0 p))) in
    rw (c.in_ok-push.ensures.items, map_push (λ (rank : ℕ × ℕ). rank.1) c.loop-position.ranks.items (c.rank_of.result, p), c.loop-position.invariant)
    (sym more)

pub returns : goal.returns
returns c =
    let n = length c.args.ids.now.packages.now in
    let ranks = c.loop-position.ranks.items in
    let ordered = c.sort_unstable_by_key.new.self.items in
    let position = λ (rank : ℕ × ℕ). rank.1 in
    let end : c.loop-position.position ≡ n = search rules in
    let all : map position ranks ≡ range_with_len 0 n = c.loop-position.invariant ∙ ap (range_with_len 0) end in
    IfOk-weaker c.positions_of.result (λ order. order.items ≡ map position ordered) _
    (λ order is. rw is (subst (λ l. IsPermutation l (map position ordered)) all (IsPermutation-map position ranks ordered c.sort_unstable_by_key.ensures.permutation)))
    (rw c.as_slice.ensures.value at c.positions_of.ensures)
