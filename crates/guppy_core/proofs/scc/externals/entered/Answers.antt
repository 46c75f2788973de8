use Rattle.std.proofs.Common.{◌≤◌, false, length, replicate, sym, ◌∙◌, arith}
use Rattle.std.proofs.Math.ListN.{length-replicate}
use Rattle.guppy_search.specs.Reach.{LinkStep}
use Rattle.guppy_core.specs.Roots.{HasNumber}
use Rattle.guppy_core.proofs.RowSets.{gathered_none, gathered_skipped, gathered_more}
use Rattle.guppy_core.proofs.Roots.{inside_also, entered_all}
use Rattle.guppy_core.proofs.scc.externals.entered.Goals.{then-has_position, else-has_position}
use Rattle.guppy_core.proofs.scc.externals.entered.Goals as goal

pub loop-position-init : goal.loop-position-init
loop-position-init g c =
    let clear = c.in_ok-entered.ensures.items_if_clones_equal (λ y h. h) in
    rw clear (gathered_none _ (replicate c.args.count false))

pub loop-position-preserved : goal.loop-position-preserved
loop-position-preserved g c =
    let Step = LinkStep {E = g.row.G-Edge.Denot} c.args.direction c.args.graph.now.links in
    let Same = HasNumber c.args.numbers.now in
    let i = c.loop-position.position in
    let table = c.loop-position.entered.items in
    let value = c.has_position.ensures.value in
    elim c.if-has_position.branch [
      | then-has_position w ↦
          let table' = w.mark_entered_from.new.entered.items in
          rw w.entered-is (gathered_more i table c.loop-position.invariant table' w.mark_entered_from.ensures.count (inside_also Step Same c.args.set.now i table table' (sym value ∙ w.if-has_position.true) w.mark_entered_from.ensures.marked))
      | else-has_position w ↦ rw w.entered-is (gathered_skipped i table c.loop-position.invariant (λ p t. let no = sym value ∙ w.if-has_position.false in let inside = t.0 in absurd (cc)))
    ]

pub returns-clause-count : goal.returns-clause-count
returns-clause-count g c = c.loop-position.invariant.size ∙ length-replicate c.args.count false

pub returns-clause-marked : goal.returns-clause-marked
returns-clause-marked g c =
    let all : length c.args.set.now ≤ c.loop-position.position = let test = c.loop-position-test.false in let count = c.node_count-position-end.ensures in omega arith in
    entered_all (LinkStep {E = g.row.G-Edge.Denot} c.args.direction c.args.graph.now.links) (HasNumber c.args.numbers.now) c.args.set.now c.loop-position.position c.loop-position.entered.items c.args.count c.loop-position.invariant all
