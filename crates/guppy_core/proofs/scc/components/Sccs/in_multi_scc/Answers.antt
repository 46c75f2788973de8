use Rattle.std.proofs.Common.{◌≡◌, ◌+◌, ◌<◌, length, get_or, ◌∙◌, subst, arith}
use Rattle.std.specs.Prelude.{map}
use Rattle.std.proofs.lemmas.List.{get_or_default}
use Rattle.guppy_core.proofs.Blocks.{next_bound, bounds_up, large_block}
use Rattle.guppy_core.proofs.scc.components.Sccs.in_multi_scc.Given.{Over}
use Rattle.guppy_core.proofs.scc.components.Sccs.in_multi_scc.Goals.{After-index-number}
use Rattle.guppy_core.proofs.scc.components.Sccs.in_multi_scc.Goals as goal

-- the number that was read is the position's, and the bound after it is there
module _ (g : Over) (c : After-index-number g) where
  within : g.Ix.IndexType.index_of c.args.position < length c.self.inside.numbers.items
  within = let r = rw (← c.self.view_is) at c.requires in let e = c.self.invariant.2.count in omega arith

  number_is : c.index-number.result.now ≡ get_or c.self.inside.numbers.items (g.Ix.IndexType.index_of c.args.position) c.index-number.result.now
  number_is = subst (λ k. c.index-number.result.now ≡ get_or c.self.inside.numbers.items k c.index-number.result.now) c.index.ensures.position c.index-number.ensures

  next : c.index-number.result.now + 1 < length c.self.inside.bounds.items
  next = next_bound (map g.Ix.IndexType.index_of c.self.inside.positions.items) c.self.inside.bounds.items c.self.inside.numbers.items c.self.invariant.1 c.self.invariant.2 _ c.index-number.result.now within number_is

pub overflow_add-number : goal.overflow_add-number
overflow_add-number g c =
    let there = next g (goal.at.overflow_add-number g c).After-index-number in
    let small = c.self.inside.bounds.small in
    let ok = c.self.inside.bounds.ok in
    omega arith

pub index-requires-2 : goal.index-requires-2
index-requires-2 g c =
    let there = next g (goal.at.index-requires-2 g c).After-index-number in
    let ok = c.self.inside.bounds.ok in
    omega arith

pub index-requires-3 : goal.index-requires-3
index-requires-3 g c =
    let there = next g (goal.at.index-requires-3 g c).After-index-number in
    let ok = c.self.inside.bounds.ok in
    omega arith

pub overflow_sub-result : goal.overflow_sub-result
overflow_sub-result g c =
    let s = c.self.inside in
    let v = c.index-number.result.now in
    let at = (goal.at.overflow_sub-result g c).After-index-number in
    let there = next g at in
    let up = bounds_up (map g.Ix.IndexType.index_of s.positions.items) s.bounds.items s.numbers.items c.self.invariant.1 c.self.invariant.2 _ v (within g at) (number_is g at) in
    let hi = c.index-2.ensures ∙ get_or_default s.bounds.items (v + 1) c.index-2.result.now 0 there in
    let lo = c.index-3.ensures ∙ get_or_default s.bounds.items v c.index-3.result.now 0 (omega arith) in
    omega arith

pub returns : goal.returns
returns g c =
    let s = c.self.inside in
    let v = c.index-number.result.now in
    let at = (goal.at.returns g c).After-index-number in
    let there = next g at in
    rw (← c.self.view_is) (large_block (map g.Ix.IndexType.index_of s.positions.items) s.bounds.items s.numbers.items c.self.invariant.1 c.self.invariant.2 _ v (within g at) (number_is g at) c.index-2.result.now c.index-3.result.now
    (c.index-2.ensures ∙ get_or_default s.bounds.items (v + 1) c.index-2.result.now 0 there)
    (c.index-3.ensures ∙ get_or_default s.bounds.items v c.index-3.result.now 0 (omega arith)))
