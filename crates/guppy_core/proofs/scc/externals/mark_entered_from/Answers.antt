use Rattle.std.proofs.Common.{◌≤◌, true, length, get_or, refl, sym, ◌∙◌, arith}
use Rattle.guppy_search.specs.Links.{seen_link}
use Rattle.guppy_search.proofs.LinkEnds.{far-seen}
use Rattle.guppy_search.specs.Reach.{LinkStep}
use Rattle.guppy_core.specs.Roots.{EntersFrom, HasNumber}
use Rattle.guppy_core.proofs.Costs.{degree}
use Rattle.guppy_search.proofs.Rows.{row_within}
use Rattle.guppy_search.proofs.SearchSteps.{far_end_below}
use Rattle.guppy_core.proofs.DepthFirstSteps.{Looked}
use Rattle.guppy_core.proofs.RowSets.{gathered_none, gathered_skipped, gathered_one, gathered_all}
use Rattle.guppy_core.proofs.Roots.{EntersFromAt, enters_one, enters_none, enters_all}
use Rattle.guppy_core.proofs.scc.externals.mark_entered_from.Goals.{then-has_position+then-numbers-far, else-has_position, else-has_position-via-then-has_position+else-numbers-far, else-has_position-via-else-has_position}
use Rattle.guppy_core.proofs.scc.externals.mark_entered_from.Goals as goal

pub loop-number-init : goal.loop-number-init
loop-number-init g c = gathered_none (EntersFromAt {E = g.row.G-Edge.Denot} c.args.direction c.args.graph.now.links c.args.numbers.now c.args.set.now c.args.position) c.args.entered.now.items

pub link-requires : goal.link-requires
link-requires g c = row_within c.args.direction c.args.graph.now.links c.args.position c.links_at-number-items.result.now c.links_at-number-items.ensures.links c.loop-number.number-index 0 c.loop-number-test.true

pub has_position-requires : goal.has_position-requires
has_position-requires g c =
    let links = c.args.graph.now.links in
    let below = far_end_below c.args.direction links (length c.args.graph.now.nodes) (get_or c.links_at-number-items.result.now c.loop-number.number-index 0) (seen_link c.link.result) c.link.ensures.link c.link.ensures.graph.ends in
    let nodes = c.requires.nodes in
    let far = (far-seen c.args.direction c.link.result _ c.far_end-far.ensures) in
    omega arith

pub loop-number-preserved : goal.loop-number-preserved
loop-number-preserved g c =
    let d = c.args.direction in
    let links = c.args.graph.now.links in
    let numbers = c.args.numbers.now in
    let members = c.args.set.now in
    let near = c.args.position in
    let i = c.loop-number.number-index in
    let table = c.loop-number.entered.items in
    let far = c.far_end-far.result in
    let l : Looked {E = g.row.G-Edge.Denot} d (λ _. true) links near i far true = record {
      within = rw (← c.links_at-number-items.ensures.links) c.loop-number-test.true;
      link = (seen_link c.link.result);
      found = rw (← c.links_at-number-items.ensures.links) c.link.ensures.link;
      far = sym (far-seen c.args.direction c.link.result _ c.far_end-far.ensures);
      kept = refl;
    } in
    let below = far_end_below d links (length c.args.graph.now.nodes) (get_or c.links_at-number-items.result.now i 0) (seen_link c.link.result) c.link.ensures.link c.link.ensures.graph.ends in
    let is = (far-seen c.args.direction c.link.result _ c.far_end-far.ensures) in
    let count = c.requires.numbers in
    let marked = c.loop-number.invariant in
    let size = marked.size in
    let value = c.has_position.ensures.value in
    elim c.if-has_position.branch [
      | then-has_position+then-numbers-far w ↦
          let low = c.requires.below far 0 (omega arith) in
          rw w.entered-is (gathered_one i table marked (get_or numbers far 0) (omega arith) (enters_one d links numbers members near i far l (sym value ∙ w.if-has_position.true) w.if-numbers-far.true))
      | else-has_position w ↦ elim w.else-has_position.branch [
        | else-has_position-via-then-has_position+else-numbers-far w' ↦ rw w.entered-is (gathered_skipped i table marked (enters_none d links numbers members near i far l (λ inside. w'.if-numbers-far.false)))
        | else-has_position-via-else-has_position w' ↦ rw w.entered-is (gathered_skipped i table marked (enters_none d links numbers members near i far l (λ inside. absurd (let no = sym value ∙ w'.if-has_position.false in cc))))
      ]
    ]

pub returns-clause-marked : goal.returns-clause-marked
returns-clause-marked g c =
    let d = c.args.direction in
    let links = c.args.graph.now.links in
    let numbers = c.args.numbers.now in
    let members = c.args.set.now in
    let near = c.args.position in
    let i = c.loop-number.number-index in
    let all : degree {E = g.row.G-Edge.Denot} d links near ≤ i = rw (← c.links_at-number-items.ensures.links) c.loop-number-test.false in
    gathered_all i c.loop-number.entered.items c.loop-number.invariant (EntersFrom (LinkStep {E = g.row.G-Edge.Denot} d links) (HasNumber numbers) members near) (enters_all d links numbers members near i all)

pub bounds-numbers-position : goal.bounds-numbers-position
bounds-numbers-position g c = rw c.requires.numbers c.requires.position

pub links_at-number-items-requires : goal.links_at-number-items-requires
links_at-number-items-requires g c = c.requires.position

pub bounds-number-items-number-index : goal.bounds-number-items-number-index
bounds-number-items-number-index g c = c.loop-number-test.true

pub bounds-numbers-far : goal.bounds-numbers-far
bounds-numbers-far g c =
    let links = c.args.graph.now.links in
    let below = far_end_below c.args.direction links (length c.args.graph.now.nodes) (get_or c.links_at-number-items.result.now c.loop-number.number-index 0) (seen_link c.link.result) c.link.ensures.link c.link.ensures.graph.ends in
    let count = c.requires.numbers in
    let far = (far-seen c.args.direction c.link.result _ c.far_end-far.ensures) in
    omega arith

pub bounds-numbers-far-then-numbers-far : goal.bounds-numbers-far-then-numbers-far
bounds-numbers-far-then-numbers-far g c =
    let links = c.args.graph.now.links in
    let below = far_end_below c.args.direction links (length c.args.graph.now.nodes) (get_or c.links_at-number-items.result.now c.loop-number.number-index 0) (seen_link c.link.result) c.link.ensures.link c.link.ensures.graph.ends in
    let count = c.requires.numbers in
    let far = (far-seen c.args.direction c.link.result _ c.far_end-far.ensures) in
    omega arith

pub index_mut-requires : goal.index_mut-requires
index_mut-requires g c =
    let links = c.args.graph.now.links in
    let below = far_end_below c.args.direction links (length c.args.graph.now.nodes) (get_or c.links_at-number-items.result.now c.loop-number.number-index 0) (seen_link c.link.result) c.link.ensures.link c.link.ensures.graph.ends in
    let count = c.requires.numbers in
    let far = (far-seen c.args.direction c.link.result _ c.far_end-far.ensures) in
    let number = c.requires.below c.far_end-far.result 0 (omega arith) in
    let size = c.loop-number.invariant.size in
    omega arith

pub returns-clause-count : goal.returns-clause-count
returns-clause-count g c = c.loop-number.invariant.size
