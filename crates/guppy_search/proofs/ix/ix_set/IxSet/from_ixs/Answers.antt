use Rattle.std.proofs.Common.{◌≡◌, ◌<◌, ◌++◌, ◌∷◌, [], ◌∙◌, sym, ap, map, length, arith, ℕ}
use Rattle.std.proofs.Math.ListN.{length-set}
use Rattle.std.proofs.lemmas.List.{map_push}
use Rattle.guppy_search.proofs.Exits.{if_ok}
use Rattle.guppy_search.proofs.IteratorItems.{holds_next}
use Rattle.guppy_search.proofs.Members.{members-set}
use Rattle.guppy_search.proofs.ix.ix_set.IxSet.from_ixs.Goals as goal

pub insert_position-requires-clause-in_range : goal.insert_position-requires-clause-in_range
insert_position-requires-clause-in_range g c =
    let so_far = rw c.into_iter-ix-iterator.ensures.into_iter_gives at c.loop-ix.yielded_by in
    let below : g.G.Ix.IndexType.index_of c.in-Some.ix < c.args.node_count = holds_next (λ (x : g.row.G-Ix.Denot). g.G.Ix.IndexType.index_of x < c.args.node_count) g.I.Iterator.next_gives c.args.ixs c.loop-ix.ix-iterator c.next.new.self c.loop-ix.yielded c.in-Some.ix c.requires.below so_far c.in-Some.ensures.steps in
    let at = c.index.ensures.position in
    let len = c.loop-ix.invariant.2 in
    omega arith

pub loop-ix-preserved : goal.loop-ix-preserved
loop-ix-preserved g c =
    let so_far = rw c.into_iter-ix-iterator.ensures.into_iter_gives at c.loop-ix.yielded_by in
    let below : g.G.Ix.IndexType.index_of c.in-Some.ix < c.args.node_count = holds_next (λ (x : g.row.G-Ix.Denot). g.G.Ix.IndexType.index_of x < c.args.node_count) g.I.Iterator.next_gives c.args.ixs c.loop-ix.ix-iterator c.next.new.self c.loop-ix.yielded c.in-Some.ix c.requires.below so_far c.in-Some.ensures.steps in
    let at = c.index.ensures.position in
    let was = c.loop-ix.invariant.2 in
    let within : c.index.result < length c.loop-ix.set = omega arith in
    let next = c.in-Some.ensures.goes.on c.loop-ix.invariant.1 in
    let len : length c.insert_position.new.self ≡ c.args.node_count = rw (c.insert_position.ensures.after, length-set) was in
    let items : map g.G.Ix.IndexType.index_of (c.loop-ix.yielded ++ c.in-Some.ix ∷ []) ≡ map g.G.Ix.IndexType.index_of c.loop-ix.yielded ++ c.index.result ∷ [] = map_push g.G.Ix.IndexType.index_of c.loop-ix.yielded c.in-Some.ix ∙ ap (λ (n : ℕ). map g.G.Ix.IndexType.index_of c.loop-ix.yielded ++ n ∷ []) (sym at) in
    (next.0, next.1, len, rw (c.insert_position.ensures.after, items) (members-set c.loop-ix.set c.index.result (map g.G.Ix.IndexType.index_of c.loop-ix.yielded) within c.loop-ix.invariant.3))

pub returns-in_err-set : goal.returns-in_err-set
returns-in_err-set g c = let none = c.from_residual.ensures.0 in record { count = if_ok _ _ none; members = if_ok _ _ none }
