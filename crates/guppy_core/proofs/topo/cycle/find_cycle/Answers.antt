use Rattle.std.proofs.Common.{◌≡◌, ◌+◌, ◌<◌, ◌≤◌, Bool, [], length, refl, sym, ◌∙◌, arith, Some}
use Rattle.std.specs.Prelude.{slice_get}
use Rattle.std.proofs.lemmas.Bool.{not-true, not-false}
use Rattle.std.proofs.lemmas.List.{append-nil}
use Rattle.guppy_search.proofs.Exits.{if_ok}
use Rattle.guppy_search.specs.declared.ix.direction.DependencyDirection.TheVariants.{Forward}
use Rattle.guppy_search.proofs.Lists.{no_items}
use Rattle.guppy_core.proofs.Costs.{degree, fits_below}
use Rattle.guppy_core.proofs.DepthFirstSteps.{Looked, looked_from, looked_below, inserted_old, smaller_done, smaller_step, smaller_new}
use Rattle.guppy_core.proofs.PathSearch.{tracing_first, tracing_old, tracing_new, tracing_below, tracing_done, tracing_all, look_paid, link_skipped, link_round, link_done, link_new, link_back, tracing_small}
use Rattle.guppy_core.proofs.topo.cycle.find_cycle.Given.{Over}
use Rattle.guppy_core.proofs.topo.cycle.find_cycle.Goals.{After-push-then-frame-leaving_at, then-insert_position+in_ok-push, else-insert_position, then-insert_position-2+in_ok-push-3, else-insert_position-2+else-not-has_position, else-keep-via-then-keep+else-far-frame, else-keep-via-else-keep}
use Rattle.guppy_core.proofs.topo.cycle.find_cycle.Goals as goal

pub loop-start-init : goal.loop-start-init
loop-start-init g c =
    let graph = c.args.graph.now.graph in
    let count : c.node_count.result ≡ length graph.nodes = c.node_count.ensures.count in
    let same : c.node_count-2.result ≡ c.node_count.result = c.node_count-2.ensures.count ∙ sym c.node_count.ensures.count in
    rw (c.in_ok-seen.ensures, c.in_ok-done.ensures, same, c.new-frames.ensures.items) (record {
      search = tracing_first g.kept graph c.node_count.result c.args.graph.now.looks count c.node_count.ensures.graph;
      empty = refl;
      graph = refl;
      counted = omega arith;
    })

pub loop-frame-init : goal.loop-frame-init
loop-frame-init g c =
    let K = g.kept in
    let graph = c.args.graph.now.graph in
    let s = rw (no_items _ c.loop-start.invariant.empty) at c.loop-start.invariant.search in
    let count : c.node_count-start-end.result ≡ length graph.nodes = c.node_count-start-end.ensures.count in
    elim c.if-insert_position.branch [
      | then-insert_position+in_ok-push w ↦
          let lacks = not-true _ (sym c.insert_position.ensures.is_new ∙ w.if-insert_position.true) in
          rw (w.frames-is, w.in_ok-push.ensures.items, no_items _ c.loop-start.invariant.empty, c.insert_position.ensures.after) (record {
            search = tracing_new K graph _ _ _ _ _ s (let t = c.loop-start-test.true in omega arith) lacks;
            graph = c.loop-start.invariant.graph;
            counted = c.loop-start.invariant.counted;
          })
      | else-insert_position w ↦
          let old = not-false _ (sym c.insert_position.ensures.is_new ∙ w.if-insert_position.false) in
          rw (w.frames-is, no_items _ c.loop-start.invariant.empty, inserted_old _ _ _ _ c.insert_position.ensures.is_new c.insert_position.ensures.after w.if-insert_position.false) (record {
            search = tracing_old K graph _ _ _ _ _ s old;
            graph = c.loop-start.invariant.graph;
            counted = c.loop-start.invariant.counted;
          })
    ]

pub leaving_at-requires : goal.leaving_at-requires
leaving_at-requires g c =
    let s = rw c.in-Some.ensures.items at c.loop-frame.invariant.search in
    rw c.loop-frame.invariant.graph (tracing_below g.kept c.args.graph.now.graph _ _ _ _ _ _ _ s)

pub look_at-number-requires-clause-position : goal.look_at-number-requires-clause-position
look_at-number-requires-clause-position g c =
    let s = rw c.in-Some.ensures.items at c.loop-frame.invariant.search in
    rw c.loop-frame.invariant.graph (tracing_below g.kept c.args.graph.now.graph _ _ _ _ _ _ _ s)

-- the popped frame has a link left
more : (g : Over) (c : After-push-then-frame-leaving_at g) → c.in-Some.frame.next < degree {E = g.row.G-Edge.Denot} Forward c.args.graph.now.graph.links c.in-Some.frame.position
more g c =
    let len : c.leaving_at.result ≡ degree {E = g.row.G-Edge.Denot} Forward c.args.graph.now.graph.links c.in-Some.frame.position = rw (← c.loop-frame.invariant.graph) c.leaving_at.ensures.count in
    rw (← len) c.if-frame-leaving_at.true

-- the look at it is paid for
paid : (g : Over) (c : After-push-then-frame-leaving_at g) → c.look_at-number.new.self.looks ≤ c.args.graph.now.looks + length c.args.graph.now.graph.links
paid g c =
    let s = rw c.in-Some.ensures.items at c.loop-frame.invariant.search in
    rw c.look_at-number.ensures.counted (look_paid g.kept c.args.graph.now.graph _ _ _ _ _ _ _ s (more g c))

-- what it shows
looked : (g : Over) (c : After-push-then-frame-leaving_at g) (b : Bool) → b ≡ g.kept c.look_at-number.result.2.now → Looked Forward g.kept c.args.graph.now.graph.links c.in-Some.frame.position c.in-Some.frame.next c.look_at-number.result.1 b
looked g c b is = looked_from {N = g.row.G-Node.Denot} {E = g.row.G-Edge.Denot} Forward g.kept c.args.graph.now.graph c.loop-frame.graph.graph c.loop-frame.invariant.graph c.in-Some.frame.position c.in-Some.frame.next c.look_at-number.result.0 c.look_at-number.result.1 c.look_at-number.result.2.now b (more g c) c.look_at-number.ensures.number c.look_at-number.ensures.link is

-- keep may be asked of it
asked : (g : Over) (c : After-push-then-frame-leaving_at g) → slice_get c.args.graph.now.graph.links c.look_at-number.result.0 ≡ Some c.look_at-number.ensures.link.0
asked g c = rw c.loop-frame.invariant.graph at c.look_at-number.ensures.link.1

pub keep-requires : goal.keep-requires
keep-requires g c =
    let at = (goal.at.keep-requires g c).After-push-then-frame-leaving_at in
    c.requires.1.1.1.1.1.1.0 _ _ _ (asked g at) (sym c.look_at-number.ensures.link.4)

-- and answers as it is kept
answer : (g : Over) (c : After-push-then-frame-leaving_at g) (b : Bool) → g.F.Fn.post c.args.keep (c.look_at-number.result.2, tt) b → b ≡ g.kept c.look_at-number.result.2.now
answer g c b h = c.requires.1.1.1.1.1.1.1 _ _ _ (asked g c) (sym c.look_at-number.ensures.link.4) b h

-- where it leads
led_below : (g : Over) (c : After-push-then-frame-leaving_at g) → c.look_at-number.result.1 < length c.args.graph.now.graph.nodes
led_below g c = looked_below Forward g.kept c.args.graph.now.graph c.node_count.ensures.graph _ _ _ _ (looked g c (g.kept c.look_at-number.result.2.now) refl)

pub look_at-number-requires-clause-room : goal.look_at-number-requires-clause-room
look_at-number-requires-clause-room g c =
    let graph = c.args.graph.now.graph in
    let s = rw c.in-Some.ensures.items at c.loop-frame.invariant.search in
    let len : c.leaving_at.result ≡ degree {E = g.row.G-Edge.Denot} Forward graph.links c.in-Some.frame.position = rw (← c.loop-frame.invariant.graph) c.leaving_at.ensures.count in
    let more : c.in-Some.frame.next < degree {E = g.row.G-Edge.Denot} Forward graph.links c.in-Some.frame.position = rw (← len) c.if-frame-leaving_at.true in
    fits_below _ _ (look_paid g.kept graph _ _ _ _ _ _ _ s more) c.requires.1.1.1.1.1.0

pub insert_position-requires-then-far-frame-clause-in_range : goal.insert_position-requires-then-far-frame-clause-in_range
insert_position-requires-then-far-frame-clause-in_range g c =
    let below = led_below g (goal.at.insert_position-requires-then-far-frame-clause-in_range g c).After-push-then-frame-leaving_at in
    rw c.loop-frame.invariant.search.state.limit_is below

pub insert_position-requires-then-far-frame-clause-small : goal.insert_position-requires-then-far-frame-clause-small
insert_position-requires-then-far-frame-clause-small g c =
    let below = led_below g (goal.at.insert_position-requires-then-far-frame-clause-small g c).After-push-then-frame-leaving_at in
    let few = c.node_count.ensures.graph.few_nodes in
    omega arith

pub positions_from-requires : goal.positions_from-requires
positions_from-requires g c =
    let s = rw c.in-Some.ensures.items at c.loop-frame.invariant.search in
    rw (c.as_slice.ensures.value, c.in_ok-push-2.ensures.items) (tracing_small g.kept c.args.graph.now.graph _ _ _ _ _ _ _ s c.node_count.ensures.graph.few_nodes)

pub returns-then-not-has_position-clause-cycle : goal.returns-then-not-has_position-clause-cycle
returns-then-not-has_position-clause-cycle g c =
    let s = rw c.in-Some.ensures.items at c.loop-frame.invariant.search in
    let l = looked g (goal.at.returns-then-not-has_position-clause-cycle g c).After-push-then-frame-leaving_at c.keep.result (answer g (goal.at.returns-then-not-has_position-clause-cycle g c).After-push-then-frame-leaving_at c.keep.result c.keep.ensures) in
    let old = not-false _ (sym c.insert_position-then-far-frame.ensures.is_new ∙ c.if-insert_position-2.false) in
    let not_done = sym c.has_position.ensures.value ∙ c.if-not-has_position.true in
    rw (c.in_ok-positions_from.ensures, c.as_slice.ensures.value, c.in_ok-push-2.ensures.items) (link_back g.kept c.args.graph.now.graph _ _ _ _ _ _ _ s c.look_at-number.result.1 c.keep.result l c.if-keep.true c.if-far-frame.true old not_done)

pub returns-then-not-has_position-clause-looks : goal.returns-then-not-has_position-clause-looks
returns-then-not-has_position-clause-looks g c = paid g (goal.at.returns-then-not-has_position-clause-looks g c).After-push-then-frame-leaving_at

pub loop-frame-smaller-then-far-frame : goal.loop-frame-smaller-then-far-frame
loop-frame-smaller-then-far-frame g c =
    let at = goal.at.loop-frame-smaller-then-far-frame g c in
    let graph = c.args.graph.now.graph in
    let cost = degree {E = g.row.G-Edge.Denot} Forward graph.links in
    let more_here = more g at.After-push-then-frame-leaving_at in
    let left_over = c.pop.new.self.items in
    let put_back = c.push-then-frame-leaving_at.new.self.items in
    elim c.if-insert_position-2.branch [
      | then-insert_position-2+in_ok-push-3 w ↦
          let below = led_below g at.After-push-then-frame-leaving_at in
          let same = c.loop-frame.invariant.search.state.limit_is in
          let within : c.look_at-number.result.1 < length c.loop-frame.seen = rw same below in
          let lacks = not-true _ (sym c.insert_position-then-far-frame.ensures.is_new ∙ w.if-insert_position-2.true) in
          rw (w.frames-is, c.insert_position-then-far-frame.ensures.after) (smaller_new cost c.loop-frame.seen c.loop-frame.frames.items left_over put_back
          c.in-Some.frame c.in-Some.ensures.items more_here c.in_ok-push-2.ensures.items c.look_at-number.result.1 w.push-then-insert_position-2.new.self.items lacks within w.in_ok-push-3.ensures.items)
      | else-insert_position-2+else-not-has_position w ↦
          let same = inserted_old _ _ _ _ c.insert_position-then-far-frame.ensures.is_new c.insert_position-then-far-frame.ensures.after w.if-insert_position-2.false in
          rw (w.frames-is, same) (smaller_step cost c.loop-frame.seen c.loop-frame.frames.items left_over put_back
          c.in-Some.frame c.in-Some.ensures.items more_here c.in_ok-push-2.ensures.items)
    ]

pub loop-frame-preserved-then-far-frame : goal.loop-frame-preserved-then-far-frame
loop-frame-preserved-then-far-frame g c =
    let K = g.kept in
    let graph = c.args.graph.now.graph in
    let s = rw c.in-Some.ensures.items at c.loop-frame.invariant.search in
    let l = looked g (goal.at.loop-frame-preserved-then-far-frame g c).After-push-then-frame-leaving_at c.keep.result (answer g (goal.at.loop-frame-preserved-then-far-frame g c).After-push-then-frame-leaving_at c.keep.result c.keep.ensures) in
    elim c.if-insert_position-2.branch [
      | then-insert_position-2+in_ok-push-3 w ↦
          let below = led_below g (goal.at.loop-frame-preserved-then-far-frame g c).After-push-then-frame-leaving_at in
          let lacks = not-true _ (sym c.insert_position-then-far-frame.ensures.is_new ∙ w.if-insert_position-2.true) in
          rw (w.frames-is, c.look_at-number.ensures.counted, c.insert_position-then-far-frame.ensures.after, w.in_ok-push-3.ensures.items, c.in_ok-push-2.ensures.items) (record {
            search = link_new K graph _ _ _ _ _ _ _ s c.look_at-number.result.1 c.keep.result l c.if-keep.true lacks below;
            graph = c.loop-frame.invariant.graph;
            counted = let k = c.loop-frame.invariant.counted in omega arith;
          })
      | else-insert_position-2+else-not-has_position w ↦
          let same = inserted_old _ _ _ _ c.insert_position-then-far-frame.ensures.is_new c.insert_position-then-far-frame.ensures.after w.if-insert_position-2.false in
          let old = sym w.has_position.ensures.value ∙ w.if-not-has_position.false in
          rw (w.frames-is, same, c.look_at-number.ensures.counted, c.in_ok-push-2.ensures.items) (record {
            search = link_done K graph _ _ _ _ _ _ _ s c.look_at-number.result.1 c.keep.result l old;
            graph = c.loop-frame.invariant.graph;
            counted = let k = c.loop-frame.invariant.counted in omega arith;
          })
    ]

pub loop-frame-smaller-else-keep : goal.loop-frame-smaller-else-keep
loop-frame-smaller-else-keep g c =
    let graph = c.args.graph.now.graph in
    smaller_step (degree {E = g.row.G-Edge.Denot} Forward graph.links) c.loop-frame.seen c.loop-frame.frames.items c.pop.new.self.items c.push-then-frame-leaving_at.new.self.items c.in-Some.frame c.in-Some.ensures.items (more g (goal.at.loop-frame-smaller-else-keep g c).After-push-then-frame-leaving_at) c.in_ok-push-2.ensures.items

pub loop-frame-preserved-else-keep : goal.loop-frame-preserved-else-keep
loop-frame-preserved-else-keep g c =
    let K = g.kept in
    let graph = c.args.graph.now.graph in
    let s = rw c.in-Some.ensures.items at c.loop-frame.invariant.search in
    let l = looked g (goal.at.loop-frame-preserved-else-keep g c).After-push-then-frame-leaving_at c.keep.result (answer g (goal.at.loop-frame-preserved-else-keep g c).After-push-then-frame-leaving_at c.keep.result c.keep.ensures) in
    rw (c.look_at-number.ensures.counted, c.in_ok-push-2.ensures.items) (record {
      search = elim c.else-keep.branch [
        | else-keep-via-then-keep+else-far-frame w ↦ link_round K graph _ _ _ _ _ _ _ s c.look_at-number.result.1 c.keep.result l w.if-far-frame.false
        | else-keep-via-else-keep w ↦ link_skipped K graph _ _ _ _ _ _ _ s c.look_at-number.result.1 c.keep.result l w.if-keep.false
      ];
      graph = c.loop-frame.invariant.graph;
      counted = let k = c.loop-frame.invariant.counted in omega arith;
    })

pub insert_position-requires-else-frame-leaving_at-clause-in_range : goal.insert_position-requires-else-frame-leaving_at-clause-in_range
insert_position-requires-else-frame-leaving_at-clause-in_range g c =
    let s = rw c.in-Some.ensures.items at c.loop-frame.invariant.search in
    rw c.loop-frame.invariant.search.state.done_is (tracing_below g.kept c.args.graph.now.graph _ _ _ _ _ _ _ s)

pub insert_position-requires-else-frame-leaving_at-clause-small : goal.insert_position-requires-else-frame-leaving_at-clause-small
insert_position-requires-else-frame-leaving_at-clause-small g c =
    let s = rw c.in-Some.ensures.items at c.loop-frame.invariant.search in
    let below = tracing_below g.kept c.args.graph.now.graph _ _ _ _ _ _ _ s in
    let few = c.node_count.ensures.graph.few_nodes in
    omega arith

pub loop-frame-smaller : goal.loop-frame-smaller
loop-frame-smaller g c =
    let graph = c.args.graph.now.graph in
    smaller_done (degree {E = g.row.G-Edge.Denot} Forward graph.links) c.loop-frame.seen c.loop-frame.frames.items c.pop.new.self.items [] c.in-Some.frame c.in-Some.ensures.items

pub loop-frame-preserved : goal.loop-frame-preserved
loop-frame-preserved g c =
    let graph = c.args.graph.now.graph in
    let s = rw c.in-Some.ensures.items at c.loop-frame.invariant.search in
    let len : c.leaving_at.result ≡ degree {E = g.row.G-Edge.Denot} Forward graph.links c.in-Some.frame.position = rw (← c.loop-frame.invariant.graph) c.leaving_at.ensures.count in
    rw c.insert_position-else-frame-leaving_at.ensures.after (record {
      search = tracing_done g.kept graph _ _ _ _ _ _ _ s (rw (← len) c.if-frame-leaving_at.false);
      graph = c.loop-frame.invariant.graph;
      counted = let k = c.loop-frame.invariant.counted in omega arith;
    })

pub insert_position-requires-clause-in_range : goal.insert_position-requires-clause-in_range
insert_position-requires-clause-in_range g c =
    let test = c.loop-start-test.true in
    let count = c.node_count-start-end.ensures.count in
    rw c.loop-start.invariant.search.state.limit_is (omega arith)

pub insert_position-requires-clause-small : goal.insert_position-requires-clause-small
insert_position-requires-clause-small g c =
    let test = c.loop-start-test.true in
    let count = c.node_count-start-end.ensures.count in
    let few = c.node_count.ensures.graph.few_nodes in
    omega arith

pub look_at-number-requires-clause-place : goal.look_at-number-requires-clause-place
look_at-number-requires-clause-place g c = rw (← c.leaving_at.ensures.count) c.if-frame-leaving_at.true

pub has_position-requires : goal.has_position-requires
has_position-requires g c = rw c.loop-frame.invariant.search.state.done_is (led_below g (goal.at.has_position-requires g c).After-push-then-frame-leaving_at)

pub loop-start-preserved : goal.loop-start-preserved
loop-start-preserved g c =
    let same : c.pop.new.self.items ≡ c.loop-frame.frames.items = sym (c.in_default.ensures.items ∙ append-nil _) in
    let none : length c.pop.new.self.items ≡ 0 = let empty = c.in_default.ensures.cases.1 in let ok = c.pop.new.self.ok in omega arith in
    record { search = rw same c.loop-frame.invariant.search; empty = none; graph = c.loop-frame.invariant.graph; counted = c.loop-frame.invariant.counted }

pub returns-clause-looks : goal.returns-clause-looks
returns-clause-looks g c = let paid = c.loop-start.invariant.search.paid in omega arith

pub returns-clause-counted : goal.returns-clause-counted
returns-clause-counted g c = c.loop-start.invariant.counted

pub returns-clause-graph : goal.returns-clause-graph
returns-clause-graph g c = c.loop-start.invariant.graph

pub returns-then-not-has_position-clause-counted : goal.returns-then-not-has_position-clause-counted
returns-then-not-has_position-clause-counted g c = rw c.look_at-number.ensures.counted (let k = c.loop-frame.invariant.counted in omega arith)

pub returns-then-not-has_position-clause-graph : goal.returns-then-not-has_position-clause-graph
returns-then-not-has_position-clause-graph g c = rw c.look_at-number.ensures.counted c.loop-frame.invariant.graph

pub returns-in_err-seen : goal.returns-in_err-seen
returns-in_err-seen g c = let none = c.from_residual.ensures.0 in record { cycle = if_ok _ _ none; looks = omega arith; counted = omega arith; graph = refl }

pub returns-in_err-done : goal.returns-in_err-done
returns-in_err-done g c = let none = c.from_residual-in_err-done.ensures.0 in record { cycle = if_ok _ _ none; looks = omega arith; counted = omega arith; graph = refl }

pub returns-in_err-push : goal.returns-in_err-push
returns-in_err-push g c =
    let none = c.from_residual-in_err-push.ensures.0 in
    let paid = c.loop-start.invariant.search.paid in
    record { cycle = if_ok _ _ none; looks = omega arith; counted = c.loop-start.invariant.counted; graph = c.loop-start.invariant.graph }

pub returns-in_err-push-2 : goal.returns-in_err-push-2
returns-in_err-push-2 g c =
    let none = c.from_residual-in_err-push-2.ensures.0 in
    let counted = c.loop-frame.invariant.counted in
    record {
      cycle = if_ok _ _ none;
      looks = paid g (goal.at.returns-in_err-push-2 g c).After-push-then-frame-leaving_at;
      counted = rw c.look_at-number.ensures.counted (omega arith);
      graph = rw c.look_at-number.ensures.counted c.loop-frame.invariant.graph;
    }

pub returns-in_err-push-3 : goal.returns-in_err-push-3
returns-in_err-push-3 g c =
    let none = c.from_residual-in_err-push-3.ensures.0 in
    let counted = c.loop-frame.invariant.counted in
    record {
      cycle = if_ok _ _ none;
      looks = paid g (goal.at.returns-in_err-push-3 g c).After-push-then-frame-leaving_at;
      counted = rw c.look_at-number.ensures.counted (omega arith);
      graph = rw c.look_at-number.ensures.counted c.loop-frame.invariant.graph;
    }

pub returns-in_err-positions_from : goal.returns-in_err-positions_from
returns-in_err-positions_from g c =
    let none = c.from_residual-in_err-positions_from.ensures.0 in
    let counted = c.loop-frame.invariant.counted in
    record {
      cycle = if_ok _ _ none;
      looks = paid g (goal.at.returns-in_err-positions_from g c).After-push-then-frame-leaving_at;
      counted = rw c.look_at-number.ensures.counted (omega arith);
      graph = rw c.look_at-number.ensures.counted c.loop-frame.invariant.graph;
    }

pub returns-clause-cycle : goal.returns-clause-cycle
returns-clause-cycle g c =
    let s = rw (no_items _ c.loop-start.invariant.empty) at c.loop-start.invariant.search in
    let all : length c.args.graph.now.graph.nodes ≤ c.loop-start.start = let count = c.node_count-start-end.ensures.count in let test = c.loop-start-test.false in omega arith in
    tracing_all g.kept c.args.graph.now.graph _ _ _ _ _ c.node_count.ensures.graph s all
