use Rattle.std.proofs.Common.{◌≡◌, ◌∙◌, sym, subst, ⊎_elim, inl, inr, true, length}
use Rattle.std.specs.Prelude.{◌↔◌, is_some, MatchOption}
use Rattle.std.proofs.lemmas.Bool.{not-true, not-false, eqb-true, eq-eqb}
use Rattle.guppy_search.specs.declared.ix.direction.DependencyDirection.TheVariants.{Forward}
use Rattle.guppy_search.specs.Graph.{NoLink, LinkIs}
use Rattle.guppy_search.specs.Reach.{LinkStep}
use Rattle.guppy_core.specs.Sccs.{InOneBlock, InLargeBlock}
use Rattle.guppy_graph.specs.Cycles.{HaveCycle}
use Rattle.guppy_graph.specs.Graph.{IsPackageGraph, GraphData}
use Rattle.guppy_graph.specs.Ids.{ix_position}
use Rattle.guppy_graph.proofs.OnCycles.{cycle_of_two, cycle_of_one, near_below, loop_found}
use Rattle.guppy_graph.proofs.graph.RecordGraph.have_cycle.Goals as goal

pub returns-then-ne : goal.returns-then-ne
returns-then-ne c =
    let g = c.args.self.now in
    let p = ix_position c.args.from in
    let q = ix_position c.args.to in
    let is : IsPackageGraph g = subst IsPackageGraph c.self.view_is c.self.invariant.graph in
    let apart : p ≡ q → ⊥ = λ e. absurd (let f = not-true _ (sym c.ne.ensures ∙ c.if-ne.true) in let t = eq-eqb p q e in cc) in
    let block : (c.is_same_scc.result ≡ true) ↔ InOneBlock g.components p q = subst (λ (x : GraphData). (c.is_same_scc.result ≡ true) ↔ InOneBlock x.components p q) c.self.view_is c.is_same_scc.ensures in
    let two = cycle_of_two (LinkStep Forward g.links) (length g.packages) g.index g.components is.ordered.components_are p q c.requires.first c.requires.second apart in
    (λ h. two.0 (block.0 h), λ h. block.1 (two.1 h))

pub returns-then-in_multi_scc : goal.returns-then-in_multi_scc
returns-then-in_multi_scc c =
    let g = c.args.self.now in
    let p = ix_position c.args.from in
    let q = ix_position c.args.to in
    let is : IsPackageGraph g = subst IsPackageGraph c.self.view_is c.self.invariant.graph in
    let same : p ≡ q = eqb-true p q (not-false _ (sym c.ne.ensures ∙ c.if-ne.false)) in
    let block : (c.in_multi_scc.result ≡ true) ↔ InLargeBlock g.components p = subst (λ (x : GraphData). (c.in_multi_scc.result ≡ true) ↔ InLargeBlock x.components p) c.self.view_is c.in_multi_scc.ensures in
    let one = cycle_of_one (LinkStep Forward g.links) (length g.packages) g.index g.components is.ordered.components_are (near_below (length g.packages) g.links is.graph.ends) p c.requires.first in
    subst (λ z. (c.in_multi_scc.result ≡ true) ↔ HaveCycle (LinkStep Forward g.links) p z) same (λ h. one.0 (inl (block.0 h)), λ h. c.if-in_multi_scc.true)

pub returns-else-in_multi_scc : goal.returns-else-in_multi_scc
returns-else-in_multi_scc c =
    let g = c.args.self.now in
    let p = ix_position c.args.from in
    let q = ix_position c.args.to in
    let is : IsPackageGraph g = subst IsPackageGraph c.self.view_is c.self.invariant.graph in
    let same : p ≡ q = eqb-true p q (not-false _ (sym c.ne.ensures ∙ c.if-ne.false)) in
    let block : (c.in_multi_scc.result ≡ true) ↔ InLargeBlock g.components p = subst (λ (x : GraphData). (c.in_multi_scc.result ≡ true) ↔ InLargeBlock x.components p) c.self.view_is c.in_multi_scc.ensures in
    let one = cycle_of_one (LinkStep Forward g.links) (length g.packages) g.index g.components is.ordered.components_are (near_below (length g.packages) g.links is.graph.ends) p c.requires.first in
    let found : MatchOption c.find_link.result (NoLink g.links p p) (LinkIs g.links p p) = subst (λ (x : GraphData). MatchOption c.find_link.result (NoLink x.links p p) (LinkIs x.links p p)) c.self.view_is c.find_link.ensures in
    let loop = loop_found g.links p c.find_link.result found in
    let answer : (is_some c.find_link.result ≡ true) ↔ HaveCycle (LinkStep Forward g.links) p p =
    (λ h. one.0 (inr (loop.0 h)), λ h. ⊎_elim (λ l. absurd (let t = block.1 l in let f = c.if-in_multi_scc.false in cc)) (λ r. loop.1 r) (one.1 h)) in
    rw c.is_some.ensures (subst (λ z. (is_some c.find_link.result ≡ true) ↔ HaveCycle (LinkStep Forward g.links) p z) same answer)
