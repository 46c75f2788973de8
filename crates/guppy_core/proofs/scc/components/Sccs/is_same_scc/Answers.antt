use Rattle.std.proofs.Common.{◌≡◌, ◌<◌, length, get_or, subst, arith}
use Rattle.std.specs.Prelude.{map}
use Rattle.guppy_core.specs.Sccs.{parts}
use Rattle.guppy_core.proofs.Blocks.{same_block}
use Rattle.guppy_core.proofs.scc.components.Sccs.is_same_scc.Goals as goal

pub returns : goal.returns
returns g c =
    let s = c.self.inside in
    let x = g.Ix.IndexType.index_of c.args.a in
    let y = g.Ix.IndexType.index_of c.args.b in
    let v = c.index-2.result.now in
    let w = c.index-4.result.now in
    let count = c.self.invariant.2.count in
    let first : x < length s.numbers.items = let r = rw (← c.self.view_is) at c.requires.first in omega arith in
    let second : y < length s.numbers.items = let r = rw (← c.self.view_is) at c.requires.second in omega arith in
    let v_is : v ≡ get_or s.numbers.items x v = subst (λ k. v ≡ get_or s.numbers.items k v) c.index.ensures.position c.index-2.ensures in
    let w_is : w ≡ get_or s.numbers.items y w = subst (λ k. w ≡ get_or s.numbers.items k w) c.index-3.ensures.position c.index-4.ensures in
    rw (← c.self.view_is) (same_block (parts s.bounds.items (map g.Ix.IndexType.index_of s.positions.items)) s.numbers.items c.self.invariant.2 x y v w first second v_is w_is)
