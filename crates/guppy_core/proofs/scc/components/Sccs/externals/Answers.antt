use Rattle.std.proofs.Common.{◌≡◌, ◌<◌, ℕ, length, get_or, map, arith}
use Rattle.std.proofs.lemmas.List.{get_or_default}
use Rattle.std.proofs.lemmas.Result.{IfOk-weaker}
use Rattle.guppy_search.proofs.Exits.{if_ok}
use Rattle.guppy_search.specs.declared.ix.direction.DependencyDirection.TheVariants.{Forward}
use Rattle.guppy_search.specs.Reach.{LinkStep, Mutual}
use Rattle.guppy_search.specs.IxSet.{IsIn}
use Rattle.guppy_core.specs.Sccs.{parts, InOneBlock}
use Rattle.guppy_core.proofs.Blocks.{next_bound}
use Rattle.guppy_search.proofs.Members.{IsIn-below}
use Rattle.guppy_core.proofs.Roots.{both_ok, roots_by_numbers, roots_same, same_number}
use Rattle.guppy_core.proofs.scc.components.Sccs.externals.Goals as goal

pub entered-requires-clause-below : goal.entered-requires-clause-below
entered-requires-clause-below g c =
    let s = c.self.inside in
    let len = c.len.ensures in
    let ok = s.bounds.ok in
    rw c.as_slice-numbers.ensures.value (λ k d h.
    let next = next_bound (map g.Ix.IndexType.index_of s.positions.items) s.bounds.items s.numbers.items c.self.invariant.1 c.self.invariant.2 k (get_or s.numbers.items k d) h (get_or_default s.numbers.items k d (get_or s.numbers.items k d) h) in
    omega arith)

pub unentered-requires-clause-below : goal.unentered-requires-clause-below
unentered-requires-clause-below g c =
    let s = c.self.inside in
    let len = c.len.ensures in
    let ok = s.bounds.ok in
    let count = c.in_ok-entered.ensures.count in
    rw (c.as_slice-numbers.ensures.value, c.as_slice.ensures.value) (λ k d h.
    let next = next_bound (map g.Ix.IndexType.index_of s.positions.items) s.bounds.items s.numbers.items c.self.invariant.1 c.self.invariant.2 k (get_or s.numbers.items k d) h (get_or_default s.numbers.items k d (get_or s.numbers.items k d) h) in
    omega arith)

pub returns-clause-roots : goal.returns-clause-roots
returns-clause-roots g c =
    let s = c.self.inside in
    let numbers = s.numbers.items in
    let blocks = parts s.bounds.items (map g.Ix.IndexType.index_of s.positions.items) in
    let members = c.args.set.now in
    let Step = LinkStep {E = g.row.G-Edge.Denot} c.args.direction c.args.graph.now.links in
    let sccs = rw (← c.self.view_is) at c.requires.sccs in
    let below : (x : ℕ) → IsIn c.args.set.now x → x < length c.self.inside.numbers.items = λ x i.
    let low = IsIn-below c.args.set.now x i in
    let count = c.self.invariant.2.count in
    let nodes = c.requires.nodes in
    omega arith in
    let marked = rw c.as_slice-numbers.ensures.value at c.in_ok-entered.ensures.marked in
    let stand = rw (c.as_slice-numbers.ensures.value, c.as_slice.ensures.value) at c.unentered.ensures.members in
    rw (← c.self.view_is) (both_ok c.unentered.result _ _ _ (λ list up stands.
    roots_same Step (λ x y. get_or numbers y 0 ≡ get_or numbers x 0) (InOneBlock blocks) members (map g.Ix.IndexType.index_of list.items)
    (λ x y i j. same_number blocks numbers c.self.invariant.2 x y (below x i) (below y j))
    (roots_by_numbers Step members numbers c.in_ok-entered.entered.items (map g.Ix.IndexType.index_of list.items) marked up stands))
    c.unentered.ensures.ascends stand)

pub returns-clause-reach : goal.returns-clause-reach
returns-clause-reach g c =
    let links = c.args.graph.now.links in
    let members = c.args.set.now in
    let Step = LinkStep {E = g.row.G-Edge.Denot} c.args.direction links in
    let below : (x : ℕ) → IsIn c.args.set.now x → x < length c.args.graph.now.nodes = λ x i. let low = IsIn-below c.args.set.now x i in let nodes = c.requires.nodes in omega arith in
    IfOk-weaker c.unentered.result _ _ (λ list roots index sccs.
    roots_same Step (InOneBlock c.args.self.now) (Mutual (LinkStep {E = g.row.G-Edge.Denot} Forward links)) members (map g.Ix.IndexType.index_of list.items)
    (λ x y i j. sccs.classes x y (below x i) (below y j))
    roots)
    (returns-clause-roots g c)

pub returns-in_err-entered : goal.returns-in_err-entered
returns-in_err-entered g c = let none = c.from_residual.ensures.0 in record { roots = if_ok _ _ none; reach = if_ok _ _ none }
