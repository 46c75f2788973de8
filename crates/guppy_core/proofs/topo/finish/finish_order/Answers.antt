use Rattle.std.proofs.Common.{◌≡◌, ◌+◌, ◌<◌, ◌≤◌, Bool, [], length, refl, sym, ◌∙◌, arith}
use Rattle.std.proofs.lemmas.Bool.{not-true, not-false}
use Rattle.std.proofs.lemmas.List.{append-nil}
use Rattle.guppy_search.proofs.Exits.{if_ok}
use Rattle.guppy_core.specs.Noted.{note}
use Rattle.guppy_core.proofs.Costs.{degree, fits_below}
use Rattle.guppy_core.proofs.DepthFirstSteps.{Looked, looked_noted, looked_below, looks_paid, finishing_first, start_old, start_new, finishing_below, look_paid, finishing_done, link_skipped, link_old, link_new, finishing_all, finishing_looked, finishing_positions, inserted_old, smaller_done, smaller_step, smaller_new}
use Rattle.guppy_search.specs.declared.ix.direction.DependencyDirection.TheVariants.{Forward}
use Rattle.guppy_search.proofs.Lists.{no_items}
use Rattle.guppy_core.proofs.topo.finish.finish_order.Given.{Over}
use Rattle.guppy_core.proofs.topo.finish.finish_order.Goals.{After-push-then-frame-leaving_at, then-insert_position+in_ok-push, else-insert_position, else-is_kept-via-then-is_kept+else-insert_position-2, else-is_kept-via-else-is_kept}
use Rattle.guppy_core.proofs.topo.finish.finish_order.Goals as goal

-- the popped frame has a link left
more : (g : Over) (c : After-push-then-frame-leaving_at g) → c.in-Some.frame.next < degree {E = g.row.G-Edge.Denot} Forward c.args.graph.now.graph.links c.in-Some.frame.position
more g c =
    let len : c.leaving_at.result ≡ degree {E = g.row.G-Edge.Denot} Forward c.args.graph.now.graph.links c.in-Some.frame.position = rw (← c.loop-frame.invariant.graph) c.leaving_at.ensures.count in
    rw (← len) c.if-frame-leaving_at.true

-- the look at it is paid for
paid : (g : Over) (c : After-push-then-frame-leaving_at g) → c.loop-frame.graph.looks + 1 ≤ c.args.graph.now.looks + length c.args.graph.now.graph.links
paid g c =
    let graph = c.args.graph.now.graph in
    let s = rw c.in-Some.ensures.items at c.loop-frame.invariant.search in
    look_paid Forward g.kept graph c.args.starts.now (c.loop-start.start-index + 1) (c.args.graph.now.looks + length graph.links) _ _ _ _ _ s (more g c)

-- what it shows
looked : (g : Over) (c : After-push-then-frame-leaving_at g) (b : Bool) → b ≡ note c.args.notes.now c.look_at-number.result.0 → Looked Forward g.kept c.args.graph.now.graph.links c.in-Some.frame.position c.in-Some.frame.next c.look_at-number.result.1 b
looked g c b is = looked_noted {N = g.row.G-Node.Denot} {E = g.row.G-Edge.Denot} Forward g.kept c.args.graph.now.graph c.loop-frame.graph.graph c.loop-frame.invariant.graph c.args.notes.now c.requires.1.1.1.1.1.1 c.in-Some.frame.position c.in-Some.frame.next c.look_at-number.result.0 c.look_at-number.result.1 c.look_at-number.result.2.now b (more g c) c.look_at-number.ensures.number c.look_at-number.ensures.link is

-- where it leads
led_below : (g : Over) (c : After-push-then-frame-leaving_at g) (b : Bool) → Looked Forward g.kept c.args.graph.now.graph.links c.in-Some.frame.position c.in-Some.frame.next c.look_at-number.result.1 b → c.look_at-number.result.1 < length c.args.graph.now.graph.nodes
led_below g c b l = looked_below Forward g.kept c.args.graph.now.graph c.node_count.ensures.graph _ _ _ _ l

pub loop-start-init : goal.loop-start-init
loop-start-init g c =
    let graph = c.args.graph.now.graph in
    let count : c.node_count.result ≡ length graph.nodes = c.node_count.ensures.count in
    rw (c.in_ok-seen.ensures, c.new-frames.ensures.items, c.new-order.ensures.items) (record {
      search = finishing_first Forward g.kept graph c.args.starts.now c.node_count.result c.args.graph.now.looks count c.node_count.ensures.graph;
      empty = refl;
      graph = refl;
      counted = omega arith;
    })

pub loop-frame-init : goal.loop-frame-init
loop-frame-init g c =
    let K = g.kept in
    let graph = c.args.graph.now.graph in
    let s = rw (no_items _ c.loop-start.invariant.empty) at c.loop-start.invariant.search in
    elim c.if-insert_position.branch [
      | then-insert_position+in_ok-push w ↦
          let lacks = not-true _ (sym c.insert_position.ensures.is_new ∙ w.if-insert_position.true) in
          rw (w.frames-is, w.in_ok-push.ensures.items, no_items _ c.loop-start.invariant.empty, c.insert_position.ensures.after) (record {
            search = start_new Forward K graph c.args.starts.now _ _ _ _ _ s _ refl c.loop-start-test.true (c.requires.1.1.1.1.0 c.loop-start.start-index 0 c.loop-start-test.true) lacks;
            graph = c.loop-start.invariant.graph;
            counted = c.loop-start.invariant.counted;
          })
      | else-insert_position w ↦
          let old = not-false _ (sym c.insert_position.ensures.is_new ∙ w.if-insert_position.false) in
          rw (w.frames-is, inserted_old _ _ _ _ c.insert_position.ensures.is_new c.insert_position.ensures.after w.if-insert_position.false) (record {
            search = start_old Forward K graph c.args.starts.now _ _ _ _ _ _ c.loop-start.invariant.search old;
            graph = c.loop-start.invariant.graph;
            counted = c.loop-start.invariant.counted;
          })
    ]

pub leaving_at-requires : goal.leaving_at-requires
leaving_at-requires g c =
    let K = g.kept in
    let graph = c.args.graph.now.graph in
    let s = rw c.in-Some.ensures.items at c.loop-frame.invariant.search in
    rw c.loop-frame.invariant.graph (finishing_below Forward K graph c.args.starts.now (c.loop-start.start-index + 1) (c.args.graph.now.looks + length graph.links) _ _ _ _ _ s)

pub look_at-number-requires-clause-position : goal.look_at-number-requires-clause-position
look_at-number-requires-clause-position g c =
    let K = g.kept in
    let graph = c.args.graph.now.graph in
    let s = rw c.in-Some.ensures.items at c.loop-frame.invariant.search in
    rw c.loop-frame.invariant.graph (finishing_below Forward K graph c.args.starts.now (c.loop-start.start-index + 1) (c.args.graph.now.looks + length graph.links) _ _ _ _ _ s)

pub look_at-number-requires-clause-room : goal.look_at-number-requires-clause-room
look_at-number-requires-clause-room g c =
    let K = g.kept in
    let graph = c.args.graph.now.graph in
    let s = rw c.in-Some.ensures.items at c.loop-frame.invariant.search in
    let len : c.leaving_at.result ≡ degree {E = g.row.G-Edge.Denot} Forward graph.links c.in-Some.frame.position = rw (← c.loop-frame.invariant.graph) c.leaving_at.ensures.count in
    let more : c.in-Some.frame.next < degree {E = g.row.G-Edge.Denot} Forward graph.links c.in-Some.frame.position = rw (← len) c.if-frame-leaving_at.true in
    let room = c.requires.1.1.1.1.1.0 in
    fits_below _ _ (look_paid Forward K graph c.args.starts.now (c.loop-start.start-index + 1) (c.args.graph.now.looks + length graph.links) _ _ _ _ _ s more) room

pub insert_position-requires-then-is_kept : goal.insert_position-requires-then-is_kept
insert_position-requires-then-is_kept g c =
    let l = looked g (goal.at.insert_position-requires-then-is_kept g c).After-push-then-frame-leaving_at c.is_kept.result c.is_kept.ensures in
    let below = led_below g (goal.at.insert_position-requires-then-is_kept g c).After-push-then-frame-leaving_at c.is_kept.result l in
    let same = c.loop-frame.invariant.search.state.limit_is in
    let few = c.node_count.ensures.graph.few_nodes in
    record { in_range = rw same below; small = omega arith }

pub loop-frame-smaller-then-insert_position-2 : goal.loop-frame-smaller-then-insert_position-2
loop-frame-smaller-then-insert_position-2 g c =
    let at = goal.at.loop-frame-smaller-then-insert_position-2 g c in
    let more_here = more g at.After-push-then-frame-leaving_at in
    let cost = degree {E = g.row.G-Edge.Denot} Forward c.args.graph.now.graph.links in
    let l = looked g at.After-push-then-frame-leaving_at c.is_kept.result c.is_kept.ensures in
    let below = led_below g at.After-push-then-frame-leaving_at c.is_kept.result l in
    let same = c.loop-frame.invariant.search.state.limit_is in
    let within : c.look_at-number.result.1 < length c.loop-frame.seen = rw same below in
    let lacks = not-true _ (sym c.insert_position-then-is_kept.ensures.is_new ∙ c.if-insert_position-2.true) in
    rw c.insert_position-then-is_kept.ensures.after (smaller_new cost c.loop-frame.seen c.loop-frame.frames.items c.pop.new.self.items c.push-then-frame-leaving_at.new.self.items
    c.in-Some.frame c.in-Some.ensures.items more_here c.in_ok-push-2.ensures.items c.look_at-number.result.1 c.push-then-insert_position-2.new.self.items lacks within c.in_ok-push-3.ensures.items)

pub loop-frame-preserved-then-insert_position-2 : goal.loop-frame-preserved-then-insert_position-2
loop-frame-preserved-then-insert_position-2 g c =
    let K = g.kept in
    let graph = c.args.graph.now.graph in
    let s = rw c.in-Some.ensures.items at c.loop-frame.invariant.search in
    let l = looked g (goal.at.loop-frame-preserved-then-insert_position-2 g c).After-push-then-frame-leaving_at c.is_kept.result c.is_kept.ensures in
    let below = led_below g (goal.at.loop-frame-preserved-then-insert_position-2 g c).After-push-then-frame-leaving_at c.is_kept.result l in
    let lacks = not-true _ (sym c.insert_position-then-is_kept.ensures.is_new ∙ c.if-insert_position-2.true) in
    rw (c.look_at-number.ensures.counted, c.insert_position-then-is_kept.ensures.after, c.in_ok-push-3.ensures.items, c.in_ok-push-2.ensures.items) (record {
      search = link_new Forward K graph c.args.starts.now (c.loop-start.start-index + 1) (c.args.graph.now.looks + length graph.links) _ _ _ _ _ s c.look_at-number.result.1 c.is_kept.result l c.if-is_kept.true lacks below;
      graph = c.loop-frame.invariant.graph;
      counted = let k = c.loop-frame.invariant.counted in omega arith;
    })

pub loop-frame-smaller-else-is_kept : goal.loop-frame-smaller-else-is_kept
loop-frame-smaller-else-is_kept g c =
    let graph = c.args.graph.now.graph in
    let same : c.else-is_kept.seen ≡ c.loop-frame.seen = elim c.else-is_kept.branch [
      | else-is_kept-via-then-is_kept+else-insert_position-2 w ↦ w.seen-is ∙ inserted_old _ _ _ _ w.insert_position-then-is_kept.ensures.is_new w.insert_position-then-is_kept.ensures.after w.if-insert_position-2.false
      | else-is_kept-via-else-is_kept w ↦ w.seen-is
    ] in
    rw same (smaller_step (degree {E = g.row.G-Edge.Denot} Forward graph.links) c.loop-frame.seen c.loop-frame.frames.items c.pop.new.self.items c.push-then-frame-leaving_at.new.self.items c.in-Some.frame c.in-Some.ensures.items (more g (goal.at.loop-frame-smaller-else-is_kept g c).After-push-then-frame-leaving_at) c.in_ok-push-2.ensures.items)

pub loop-frame-preserved-else-is_kept : goal.loop-frame-preserved-else-is_kept
loop-frame-preserved-else-is_kept g c =
    let K = g.kept in
    let graph = c.args.graph.now.graph in
    let s = rw c.in-Some.ensures.items at c.loop-frame.invariant.search in
    let l = looked g (goal.at.loop-frame-preserved-else-is_kept g c).After-push-then-frame-leaving_at c.is_kept.result c.is_kept.ensures in
    elim c.else-is_kept.branch [
      | else-is_kept-via-then-is_kept+else-insert_position-2 w ↦
          let old = not-false _ (sym w.insert_position-then-is_kept.ensures.is_new ∙ w.if-insert_position-2.false) in
          rw (w.seen-is, inserted_old _ _ _ _ w.insert_position-then-is_kept.ensures.is_new w.insert_position-then-is_kept.ensures.after w.if-insert_position-2.false, c.look_at-number.ensures.counted, c.in_ok-push-2.ensures.items) (record {
            search = link_old Forward K graph c.args.starts.now (c.loop-start.start-index + 1) (c.args.graph.now.looks + length graph.links) _ _ _ _ _ s c.look_at-number.result.1 c.is_kept.result l w.if-is_kept.true old;
            graph = c.loop-frame.invariant.graph;
            counted = let k = c.loop-frame.invariant.counted in omega arith;
          })
      | else-is_kept-via-else-is_kept w ↦
          rw (w.seen-is, c.look_at-number.ensures.counted, c.in_ok-push-2.ensures.items) (record {
            search = link_skipped Forward K graph c.args.starts.now (c.loop-start.start-index + 1) (c.args.graph.now.looks + length graph.links) _ _ _ _ _ s c.look_at-number.result.1 c.is_kept.result l w.if-is_kept.false;
            graph = c.loop-frame.invariant.graph;
            counted = let k = c.loop-frame.invariant.counted in omega arith;
          })
    ]

pub loop-frame-smaller : goal.loop-frame-smaller
loop-frame-smaller g c =
    let graph = c.args.graph.now.graph in
    smaller_done (degree {E = g.row.G-Edge.Denot} Forward graph.links) c.loop-frame.seen c.loop-frame.frames.items c.pop.new.self.items [] c.in-Some.frame c.in-Some.ensures.items

pub loop-frame-preserved : goal.loop-frame-preserved
loop-frame-preserved g c =
    let K = g.kept in
    let graph = c.args.graph.now.graph in
    let s = rw c.in-Some.ensures.items at c.loop-frame.invariant.search in
    let len : c.leaving_at.result ≡ degree {E = g.row.G-Edge.Denot} Forward graph.links c.in-Some.frame.position = rw (← c.loop-frame.invariant.graph) c.leaving_at.ensures.count in
    rw c.in_ok-push-4.ensures.items (record {
      search = finishing_done Forward K graph c.args.starts.now (c.loop-start.start-index + 1) (c.args.graph.now.looks + length graph.links) _ _ _ _ _ s (rw (← len) c.if-frame-leaving_at.false);
      graph = c.loop-frame.invariant.graph;
      counted = let k = c.loop-frame.invariant.counted in omega arith;
    })

pub returns-clause-order : goal.returns-clause-order
returns-clause-order g c =
    let K = g.kept in
    let graph = c.args.graph.now.graph in
    let s = rw (no_items _ c.loop-start.invariant.empty) at c.loop-start.invariant.search in
    finishing_all Forward K graph c.args.starts.now _ _ _ _ _ s c.loop-start-test.false

pub returns-clause-positions : goal.returns-clause-positions
returns-clause-positions g c = finishing_positions Forward g.kept c.args.graph.now.graph c.args.starts.now _ _ _ _ _ _ c.loop-start.invariant.search

pub returns-in_err-seen : goal.returns-in_err-seen
returns-in_err-seen g c = let none = c.from_residual.ensures.0 in record { order = if_ok _ _ none; positions = if_ok _ _ none; looks = omega arith; counted = omega arith; looked = if_ok _ _ none; graph = refl }

pub returns-in_err-push : goal.returns-in_err-push
returns-in_err-push g c =
    let none = c.from_residual-in_err-push.ensures.0 in
    let paid = c.loop-start.invariant.search.paid in
    record { order = if_ok _ _ none; positions = if_ok _ _ none; looks = omega arith; counted = c.loop-start.invariant.counted; looked = if_ok _ _ none; graph = c.loop-start.invariant.graph }

pub returns-in_err-push-2 : goal.returns-in_err-push-2
returns-in_err-push-2 g c =
    let none = c.from_residual-in_err-push-2.ensures.0 in
    let counted = c.loop-frame.invariant.counted in
    record {
      order = if_ok _ _ none;
      positions = if_ok _ _ none;
      looks = rw c.look_at-number.ensures.counted (paid g (goal.at.returns-in_err-push-2 g c).After-push-then-frame-leaving_at);
      counted = rw c.look_at-number.ensures.counted (omega arith);
      looked = if_ok _ _ none;
      graph = rw c.look_at-number.ensures.counted c.loop-frame.invariant.graph;
    }

pub returns-in_err-push-3 : goal.returns-in_err-push-3
returns-in_err-push-3 g c =
    let none = c.from_residual-in_err-push-3.ensures.0 in
    let counted = c.loop-frame.invariant.counted in
    record {
      order = if_ok _ _ none;
      positions = if_ok _ _ none;
      looks = rw c.look_at-number.ensures.counted (paid g (goal.at.returns-in_err-push-3 g c).After-push-then-frame-leaving_at);
      counted = rw c.look_at-number.ensures.counted (omega arith);
      looked = if_ok _ _ none;
      graph = rw c.look_at-number.ensures.counted c.loop-frame.invariant.graph;
    }

pub returns-in_err-push-4 : goal.returns-in_err-push-4
returns-in_err-push-4 g c =
    let none = c.from_residual-in_err-push-4.ensures.0 in
    let paid = c.loop-frame.invariant.search.paid in
    record { order = if_ok _ _ none; positions = if_ok _ _ none; looks = omega arith; counted = c.loop-frame.invariant.counted; looked = if_ok _ _ none; graph = c.loop-frame.invariant.graph }

pub returns-clause-counted : goal.returns-clause-counted
returns-clause-counted g c = c.loop-start.invariant.counted

pub insert_position-requires-clause-in_range : goal.insert_position-requires-clause-in_range
insert_position-requires-clause-in_range g c = rw c.loop-start.invariant.search.state.limit_is (c.requires.1.1.1.1.0 c.loop-start.start-index 0 c.loop-start-test.true)

pub insert_position-requires-clause-small : goal.insert_position-requires-clause-small
insert_position-requires-clause-small g c =
    let below = c.requires.1.1.1.1.0 c.loop-start.start-index 0 c.loop-start-test.true in
    let few = c.node_count.ensures.graph.few_nodes in
    omega arith

pub look_at-number-requires-clause-place : goal.look_at-number-requires-clause-place
look_at-number-requires-clause-place g c = rw (← c.leaving_at.ensures.count) c.if-frame-leaving_at.true

pub loop-start-preserved : goal.loop-start-preserved
loop-start-preserved g c =
    let same : c.pop.new.self.items ≡ c.loop-frame.frames.items = sym (c.in_default.ensures.items ∙ append-nil _) in
    let none : length c.pop.new.self.items ≡ 0 = let empty = c.in_default.ensures.cases.1 in let ok = c.pop.new.self.ok in omega arith in
    record { search = rw same c.loop-frame.invariant.search; empty = none; graph = c.loop-frame.invariant.graph; counted = c.loop-frame.invariant.counted }

pub returns-clause-looks : goal.returns-clause-looks
returns-clause-looks g c = looks_paid Forward g.kept c.args.graph.now.graph c.args.starts.now _ _ _ _ _ _ c.loop-start.invariant.search

pub returns-clause-graph : goal.returns-clause-graph
returns-clause-graph g c = c.loop-start.invariant.graph

pub returns-clause-looked : goal.returns-clause-looked
returns-clause-looked g c =
    let s = rw (no_items _ c.loop-start.invariant.empty) at c.loop-start.invariant.search in
    finishing_looked Forward g.kept c.args.graph.now.graph c.args.starts.now _ _ _ _ _ c.args.graph.now.looks refl s
