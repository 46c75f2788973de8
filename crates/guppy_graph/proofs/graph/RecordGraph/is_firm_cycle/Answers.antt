use Rattle.std.proofs.Common.{◌≡◌, ◌-◌, arith, ◌<◌, ◌≤◌, ◌∙◌, sym, subst, length, map, get_or, Some, slice_get}
use Rattle.std.proofs.lemmas.Bool.{not-true, not-false, ltb-true, lt-ltb}
use Rattle.std.proofs.lemmas.List.{length-map}
use Rattle.std.proofs.lemmas.List.Elements.{All-map}
use Rattle.guppy_graph.specs.Ids.{ix_position}
use Rattle.guppy_graph.specs.Ordered.{FirmStep}
use Rattle.guppy_graph.proofs.Rounds.{rounds_first, rounds_below, rounds_repeat, rounds_unlinked, rounds_more, rounds_all, position_at}
use Rattle.guppy_graph.proofs.graph.RecordGraph.is_firm_cycle.Goals.{then-not-insert-via-then-not-insert, then-not-insert-via-else-not-insert+then-not-has_firm_link}
use Rattle.guppy_graph.proofs.graph.RecordGraph.is_firm_cycle.Goals as goal

pub loop-ix-init : goal.loop-ix-init
loop-ix-init c =
    let g = c.args.self.now in
    let list = map ix_position c.args.ixs.now in
    let len = length-map c.args.ixs.now ix_position in
    rw (c.in_ok-seen.ensures, c.package_count.ensures) (rounds_first (FirmStep g.links) (length g.packages) (map ix_position c.args.ixs.now) (ix_position c.in-Some.last.now) (λ k e.
    let low : k < length c.args.ixs.now = omega arith in
    let same : k ≡ length c.args.ixs.now - 1 = omega arith in
    let last : c.in-Some.last.now ≡ get_or c.args.ixs.now k c.in-Some.last.now = rw same c.in-Some.ensures.item.1 in
    subst (λ z. slice_get (map ix_position c.args.ixs.now) k ≡ Some (ix_position z)) (sym last) (position_at c.args.ixs.now k c.in-Some.last.now low)))

pub has_firm_link-requires : goal.has_firm_link-requires
has_firm_link-requires c =
    let g = c.args.self.now in
    let at = position_at c.args.ixs.now c.loop-ix.ix-index (record { 0 = 0 }) c.loop-ix-test.true in
    rounds_below (FirmStep g.links) (length g.packages) (map ix_position c.args.ixs.now) c.loop-ix.ix-index (ix_position c.loop-ix.before) c.loop-ix.seen c.loop-ix.invariant _ at (All-map (λ p. p < length g.packages) ix_position c.args.ixs.now c.requires)

pub returns-then-not-insert : goal.returns-then-not-insert
returns-then-not-insert c =
    let g = c.args.self.now in
    let R = FirmStep g.links in
    let list = map ix_position c.args.ixs.now in
    let at = position_at c.args.ixs.now c.loop-ix.ix-index (record { 0 = 0 }) c.loop-ix-test.true in (
      λ h. absurd (cc),
      λ cycle. absurd (elim c.then-not-insert.branch [
        | then-not-insert-via-then-not-insert w ↦ rounds_repeat (FirmStep g.links) (length g.packages) (map ix_position c.args.ixs.now) c.loop-ix.ix-index (ix_position c.loop-ix.before) c.loop-ix.seen c.loop-ix.invariant _ at (not-false _ (sym c.insert.ensures.is_new ∙ w.if-not-insert.true)) cycle
        | then-not-insert-via-else-not-insert+then-not-has_firm_link w ↦ rounds_unlinked (FirmStep g.links) (length g.packages) (map ix_position c.args.ixs.now) c.loop-ix.ix-index (ix_position c.loop-ix.before) c.loop-ix.seen c.loop-ix.invariant _ at (λ r. let yes = w.has_firm_link.ensures.1 r in let no = w.if-not-has_firm_link.true in absurd (cc)) cycle
      ]),
    )

pub loop-ix-preserved : goal.loop-ix-preserved
loop-ix-preserved c =
    let g = c.args.self.now in
    let at = position_at c.args.ixs.now c.loop-ix.ix-index (record { 0 = 0 }) c.loop-ix-test.true in
    rw c.insert.ensures.after (rounds_more (FirmStep g.links) (length g.packages) (map ix_position c.args.ixs.now) c.loop-ix.ix-index (ix_position c.loop-ix.before) c.loop-ix.seen c.loop-ix.invariant _ at (not-true _ (sym c.insert.ensures.is_new ∙ c.if-not-insert.false)) (c.has_firm_link.ensures.0 c.if-not-has_firm_link.false) (All-map (λ p. p < length g.packages) ix_position c.args.ixs.now c.requires))

pub returns : goal.returns
returns c =
    let g = c.args.self.now in
    let len = length-map c.args.ixs.now ix_position in
    let all : length (map ix_position c.args.ixs.now) ≤ c.loop-ix.ix-index = let end = c.loop-ix-test.false in omega arith in
    let same = rounds_all (FirmStep g.links) (length g.packages) (map ix_position c.args.ixs.now) c.loop-ix.ix-index (ix_position c.loop-ix.before) c.loop-ix.seen c.loop-ix.invariant all in
    (λ t. same.0 (let l = ltb-true 1 (length c.args.ixs.now) t in omega arith), λ cycle. lt-ltb 1 (length c.args.ixs.now) (let l = same.1 cycle in omega arith))
