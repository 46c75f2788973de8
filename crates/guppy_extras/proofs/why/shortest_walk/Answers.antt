use Rattle.std.proofs.Common.{[], ◌∷◌, map, subst}
use Rattle.std.specs.Borrow.{Bor}
use Rattle.std.specs.Prelude.{IfSome, IfNone}
use Rattle.std.proofs.lemmas.Result.{err_from_is_err_and}
use Rattle.guppy_graph.specs.Graph.{GraphData}
use Rattle.guppy_graph.specs.Ids.{HasId, ix_position}
use Rattle.guppy.specs.Views.{package_position, link_number}
use Rattle.guppy_graph.specs.Refused.{named_id}
use Rattle.guppy_graph.proofs.UnknownTexts.{NamesText-along, first_unknown-cons, first_unknown-behind}
use Rattle.guppy_extras.specs.Walk.{IsWalk, NoWalk}
use Rattle.guppy_extras.proofs.FoundWalks.{depends_of}
use Rattle.guppy_extras.proofs.why.shortest_walk.Goals as goal

pub returns-in_err-start-clause-unknown : goal.returns-in_err-start-clause-unknown
returns-in_err-start-clause-unknown c =
    let p = err_from_is_err_and c.from_residual.result c.from_residual.ensures.1 in
    rw (p.1, p.2) (NamesText-along named_id _ _ _ (λ id first. first_unknown-behind _ (c.args.from.now ∷ []) (c.args.to.now ∷ []) id first) c.in_err-start.ensures.unknown)

pub returns-in_err-end-clause-unknown : goal.returns-in_err-end-clause-unknown
returns-in_err-end-clause-unknown c =
    let p = err_from_is_err_and c.from_residual-in_err-end.result c.from_residual-in_err-end.ensures.1 in
    rw (p.1, p.2) (NamesText-along named_id _ _ _ (λ id first. first_unknown-cons _ c.args.from.now (c.args.to.now ∷ []) id (package_position c.in_ok-start.start, c.in_ok-start.ensures.found.1) first) c.in_err-end.ensures.unknown)

pub returns-clause-depends : goal.returns-clause-depends
returns-clause-depends c distinct =
    let g = c.args.graph.now in
    let p = package_position c.in_ok-start.start in
    let q = ix_position c.package_ix.result in
    let found = c.in_ok-walk_from.field-0 in
    let has_b : HasId g.packages c.args.to.now q = rw c.package_ix.ensures c.in_ok-end.ensures.found.1 in
    let same = c.in_ok-start.ensures.found.0 in
    let walk = subst (λ (h : Bor GraphData). IfSome found (λ w. IsWalk h.now.links p q (map link_number w.items))) same c.in_ok-walk_from.ensures.walk in
    let none = subst (λ (h : Bor GraphData). IfNone found (NoWalk h.now.links p q)) same c.in_ok-walk_from.ensures.none in
    depends_of g c.args.from.now c.args.to.now p q c.in_ok-start.ensures.found.1 has_b distinct found (λ w. map link_number w.items) walk none
